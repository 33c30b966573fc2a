-- What the run of shared berths keeps, in a record of its own.
use Rattle.std.proofs.Common.{◌≡◌, ◌∙◌, ◌*◌, ℕ, List, Option, Some, None, Result, Ok, Err, ap, subst, sym}
use Rattle.build_report.specs.declared.fault.RunFault.{RunFault}
use Rattle.core_contract.specs.Discipline.{Discipline}
use Rattle.exec_journal.specs.Entry.{Entry}
use Rattle.outside.specs.Told.{FloorTold}
use Rattle.outside.specs.declared.floor.FloorRead.{FloorRead}
use Rattle.progress_laws.specs.Few.{CallsAreFew}
use Rattle.progress_laws.specs.Moments.{NeverStuck}
use Rattle.run_plan.specs.declared.plan.Plan.{Plan}
use Rattle.run_tasks.specs.declared.task.Task.{Task}
use Rattle.placed_rules.specs.declared.pools.SharedPlan.{SharedPlan}
use Rattle.placed_berths.specs.Basis.{usable_placed}
use Rattle.placed_rules.specs.declared.placed.Placed.{Placed}
use Rattle.placed_rules.specs.Kept.{PlacedKept}
use Rattle.placed_rules.specs.Pools.{seats}
use Rattle.placed_rules.specs.Placed.{on_pools, placed_discipline, shared_discipline}
use Rattle.placed_runs.specs.Fronts.{SharedPromised, pools_in, shared_course}
use Rattle.placed_runs.specs.SharedHeadline.{IsFewShared, SharedKeeps, SharedRead, Sharing, shared_by, shared_kept, shared_lanes, shared_rules}
use Rattle.shared_tasks.specs.Words.{shared_options_of}
use Rattle.shared_tasks.specs.declared.reading.SharedTask.{SharedTask}
use Rattle.worker_run.proofs.Fronts.{course_by}
use Rattle.worker_run.proofs.Keeping.{IsAs, keeps_as, on_both}
use Rattle.worker_run.specs.Ends.{LeadsTo}
use Rattle.worker_run.specs.Fronts.{BasisKeeps, EndsBy, HasReadBy}
use Rattle.worker_run.specs.Headline.{AreRulesOf, IsNeverStuck, OnRun, newest_first}
use Rattle.worker_run.specs.Seen.{EndedTold, Left}

abbrev sharing_of : SharedPlan → Sharing
sharing_of q = record { pools = q.pools; instances = q.instances }

-- by the plan of the task
same_plan : (q : SharedPlan) (t : Task) → q.plan ≡ t.plan → q ≡ shared_by (sharing_of q) t.plan
same_plan q t is = ap (shared_by (sharing_of q)) is

abbrev rules_of : Placed → Discipline
rules_of x = placed_discipline (usable_placed x)

abbrev orders_of : Placed → List Entry → Type 0
orders_of x = PlacedKept (usable_placed x)

module _ (words : List (List ℕ)) (before : FloorTold) (end : EndedTold) (b : Placed) where
  abbrev q : SharedPlan
  q = pools_in b

  read_so : (reads : List FloorRead) (made : Result (Task × Placed) RunFault)
      → HasReadBy (shared_course words) b reads made
      → (also : Result SharedTask RunFault)
      × SharedRead (sharing_of q) (shared_options_of words) reads also
      × (LeadsTo (λ x. x.0) made end.fault end.task
      → LeadsTo (λ (x : SharedTask). x.task) also end.fault end.task)
  read_so reads (Ok m) h = (
    Ok (record { task = m.0; shared = h.0.0 }),
    (
      h.0.3,
      same_plan h.0.0 m.0 h.0.1
          ∙ ap (λ (s : SharedPlan). shared_by (sharing_of s) m.0.plan)
          (ap pools_in (sym h.0.2 ∙ h.1)),
    ),
    λ led. led,
  )
  read_so reads (Err f) h = (Err f, (h.0, tt), λ led. led)

  abbrev Rules : Task → Left → Type 0
  Rules = AreRulesOf (λ t. rules_of b)

  abbrev Has : Task → Left → Type 0
  Has t x = SharedPromised b (newest_first x)

  abbrev As : Task → Left → Type 0
  As = IsAs (λ t. rules_of b) (shared_rules (sharing_of q)) (λ t. orders_of b)
      (shared_kept (sharing_of q))

  -- the basis is the task's plan on these pools
  basis_is : (t : Task) (x : Left) → Rules t x → Has t x
      → usable_placed b ≡ on_pools (shared_by (sharing_of q) t.plan) None
  basis_is t x r h = ap usable_placed h.pools
      ∙ ap (λ (s : SharedPlan). on_pools s None) (h.ends.usable ∙ same_plan q t r.plan)

  alike : (t : Task) (x : Left) → Rules t x → Has t x → As t x
  alike t x r h = record {
    same = ap placed_discipline (basis_is t x r h);
    kept = λ kept. subst (λ (s : Placed). PlacedKept s (newest_first x)) (basis_is t x r h) kept;
  }

  awaited : (t : Task) (x : Left) → Rules t x → Has t x
      → IsNeverStuck (shared_rules (sharing_of q)) (shared_lanes (sharing_of q)) t x
  awaited t x r h = subst (λ (s : SharedPlan). NeverStuck (shared_discipline s) (2 * seats s)
      (newest_first x)) (same_plan q t r.plan) h.ends.awaited

  few : (t : Task) (x : Left) → Rules t x → Has t x → IsFewShared (sharing_of q) t x
  few t x r h = subst (λ (s : SharedPlan). CallsAreFew s.plan (2 * seats s) (newest_first x))
      (same_plan q t r.plan) h.ends.few

  keeps : BasisKeeps (shared_course words) rules_of orders_of SharedPromised before end b
      → SharedKeeps (shared_options_of words) before end
  keeps k = record {
    sharing = sharing_of q;
    course = course_by (HasReadBy (shared_course words) b)
        (SharedRead (sharing_of q) (shared_options_of words)) (λ x. x.0) (λ x. x.task) before end
        read_so k.course;
    task = keeps_as (λ t. rules_of b) (shared_rules (sharing_of q)) (λ t. orders_of b)
        (shared_kept (sharing_of q)) before end
        (on_both end Rules Has As alike k.task.of_task k.promised) k.task;
    awaited = on_both end Rules Has
        (IsNeverStuck (shared_rules (sharing_of q)) (shared_lanes (sharing_of q))) awaited
        k.task.of_task k.promised;
    few = on_both end Rules Has (IsFewShared (sharing_of q)) few k.task.of_task k.promised;
  }

-- it is never refused
pub shared_keeps : {W : Type 0} (words : List (List ℕ)) (before : FloorTold) (end : EndedTold)
    (told : W → ℕ) (pacer after : W) (refused : Option ℕ)
    → EndsBy (shared_course words) rules_of orders_of SharedPromised before told pacer after end
    refused
    → SharedKeeps (shared_options_of words) before end
shared_keeps words before end told pacer after None h = keeps words before end h.0 h.1
shared_keeps words before end told pacer after (Some action) h = absurd h.course.3
