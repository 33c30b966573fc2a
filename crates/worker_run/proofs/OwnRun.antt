-- What the front of the plan's own berths promises, and what is said of its run in a record of its own.
use Rattle.std.proofs.Common.{◌*◌, ℕ, List, Option, Some, None, Result, Ok, Err, ap, subst}
use Rattle.build_report.specs.declared.fault.RunFault.{RunFault}
use Rattle.build_report.specs.declared.fault.RunFault.TheVariants as fault
use Rattle.core_contract.specs.Disciplines.{LegalBy, own_discipline}
use Rattle.discipline_laws.proofs.OwnDiscipline.{own_legal}
use Rattle.exec_journal.specs.Entry.{Entry}
use Rattle.exec_journal.specs.Kept.{Kept}
use Rattle.outside.specs.Told.{FloorTold}
use Rattle.outside.specs.declared.floor.FloorRead.{FloorRead}
use Rattle.progress_laws.proofs.Moments.{never_stuck}
use Rattle.progress_laws.proofs.Own.{ends_or_waits}
use Rattle.progress_laws.proofs.counts.Disciplines.{own_few}
use Rattle.run_loading.specs.Reads.{Reads, UnlessBefore}
use Rattle.run_plan.specs.Groups.{berths}
use Rattle.run_plan.specs.Sound.{Sound}
use Rattle.run_plan.specs.declared.plan.Plan.{Plan}
use Rattle.run_tasks.specs.Course.{Course}
use Rattle.run_tasks.specs.declared.task.Task.{Task}
use Rattle.run_values.specs.Runnable.{EachHasBerth}
use Rattle.tool_words.specs.Options.{options_of}
use Rattle.tool_words.specs.declared.options.Options.{Options}
use Rattle.worker_run.proofs.Fronts.{course_by}
use Rattle.worker_run.proofs.Keeping.{IsAs, keeps_as, on_both}
use Rattle.worker_run.proofs.Reading.{course_silent}
use Rattle.worker_run.specs.Fronts.{BasisKeeps, EndsBy, HasReadBy, IsOfReading}
use Rattle.worker_run.specs.Headline.{AreRulesOf, IsFew, IsNeverStuck, IsOwnLegal, OnRun, RunKeeps, newest_first, own_kept, own_lanes, own_rules}
use Rattle.worker_run.specs.Own.{OwnPromised, own_course}
use Rattle.worker_run.specs.Seen.{EndedTold, Left}

pub own_promised : (p : Plan) (j : List Entry) → Sound p → EachHasBerth p
    → LegalBy (own_discipline p) j → OwnPromised p j
own_promised p j sound has legal = record {
  legal = own_legal p j legal;
  awaited = never_stuck (own_discipline p) (2 * berths p)
      (λ k legal rest. ends_or_waits p k sound has legal rest) j legal;
  few = own_few p j sound legal;
}

-- its reads don't end with the sink's fault
pub course_of_reading : (options : Option Options) (before mid : FloorTold) (f : RunFault)
    → UnlessBefore (Some f) (Reads before mid (λ reads. Course options reads (Err f)))
    → IsOfReading (Some f)
course_of_reading options before mid fault.SinkFailed h = absurd (course_silent options h.0 h.3)
course_of_reading options before mid (fault.NoMemory when) h = tt
course_of_reading options before mid fault.Words h = tt
course_of_reading options before mid (fault.List x) h = tt
course_of_reading options before mid (fault.Flags a x) h = tt
course_of_reading options before mid (fault.Absent at) h = tt
course_of_reading options before mid (fault.FloorFailed at) h = tt

read_so : (words : List (List ℕ)) (p : Plan) (reads : List FloorRead)
    (made : Result (Task × Plan) RunFault) → HasReadBy (own_course words) p reads made
    → Course (options_of words) reads made
read_so words p reads (Ok made) h = h.0
read_so words p reads (Err f) h = h.0

module _ (words : List (List ℕ)) (before : FloorTold) (end : EndedTold) where
  run_keeps : (p : Plan) → BasisKeeps (own_course words) own_discipline Kept OwnPromised before end p
      → RunKeeps (options_of words) before end
  run_keeps p k = record {
    course = course_by (HasReadBy (own_course words) p) (Course (options_of words)) (λ made. made.0)
        (λ made. made.0) before end
        (λ reads made h. (made, read_so words p reads made h, λ led. led)) k.course;
    task = keeps_as (λ t. own_discipline p) own_rules (λ t. Kept p) own_kept before end alike k.task;
    legal = promised IsOwnLegal (λ t x h. h.legal);
    awaited = promised (IsNeverStuck own_rules own_lanes) (λ t x h. h.awaited);
    few = promised IsFew (λ t x h. h.few);
  }
    where
      Rules : Task → Left → Type 0
      Rules = AreRulesOf (λ t. own_discipline p)

      Has : Task → Left → Type 0
      Has t x = OwnPromised p (newest_first x)

      alike : OnRun end (IsAs (λ t. own_discipline p) own_rules (λ t. Kept p) own_kept)
      alike = on_both end Rules Rules (IsAs (λ t. own_discipline p) own_rules (λ t. Kept p) own_kept)
          (λ t x r s. record {
            same = ap own_discipline r.plan;
            kept = λ kept. subst (λ (q : Plan). Kept q (newest_first x)) r.plan kept;
          }) k.task.of_task k.task.of_task

      promised : (P : Task → Left → Type 0)
          → ((t : Task) (x : Left) → OwnPromised t.plan (newest_first x) → P t x) → OnRun end P
      promised P so = on_both end Rules Has P
          (λ t x r h. so t x (subst (λ (q : Plan). OwnPromised q (newest_first x)) r.plan h))
          k.task.of_task k.promised

  -- it is never refused
  pub own_keeps : {W : Type 0} (told : W → ℕ) (pacer after : W) (refused : Option ℕ)
      → EndsBy (own_course words) own_discipline Kept OwnPromised before told pacer after end refused
      → RunKeeps (options_of words) before end
  own_keeps told pacer after None h = run_keeps h.0 h.1
  own_keeps told pacer after (Some action) h = absurd h.course.3
