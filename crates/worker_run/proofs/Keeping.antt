-- All that a run keeps: by the rules of its task, over the reads before it, and with no lane.
use Rattle.std.proofs.Common.{arith, ◌≡◌, ◌≤◌, ◌∙◌, List, Option, Some, None, IfSome, refl, ap, subst, sym}
use Rattle.build_report.specs.Faults.{fault_status}
use Rattle.build_report.specs.declared.fault.RunFault.{RunFault}
use Rattle.core_contract.specs.Discipline.{Discipline}
use Rattle.core_contract.specs.Disciplines.{LegalBy}
use Rattle.core_contract.specs.Ruled.{answer_after}
use Rattle.lane_runs.specs.Runs.{Rooms, Stops}
use Rattle.exec_journal.specs.Entry.{Entry}
use Rattle.outside.specs.Causes.{Counts}
use Rattle.outside.specs.Told.{FloorTold, SameFloor}
use Rattle.run_loading.specs.Reads.{IsFloorFailed}
use Rattle.run_tasks.specs.declared.task.Task.{Task}
use Rattle.worker_run.proofs.Making.{few_since, made_since, nothing_made, nothing_much}
use Rattle.worker_run.proofs.Reading.{fault_nothing}
use Rattle.worker_run.specs.Ends.{TellsTask}
use Rattle.worker_run.specs.Headline.{AreRulesOf, HasRooms, IsKept, IsLegal, IsStopped, OnRun, TaskKeeps, newest_first}
use Rattle.worker_run.specs.Histories.{history_of}
use Rattle.worker_run.specs.Lanes.{AreNewBerths}
use Rattle.worker_run.specs.Seen.{EndedTold, Left, ended_told, nothing_left}

-- ---- by the task that was run

-- what is said of the task that is told and what it is run by
abbrev Both : (Task → Left → Type 0) → (Task → Left → Type 0) → (Task → Left → Type 0) → Type 0
Both E P Q = (t : Task) (x : Left) → E t x → P t x → Q t x

pub on_both : (end : EndedTold) (E P Q : Task → Left → Type 0) → Both E P Q → OnRun end E
    → OnRun end P → OnRun end Q
on_both end E P Q so e p = by end.task e p
  where
    by : (o : Option Task) → IfSome o (λ t. E t end.left) → IfSome o (λ t. P t end.left)
        → IfSome o (λ t. Q t end.left)
    by None e p = tt
    by (Some t) e p = so t end.left e p

-- These rules of a task are those, and what its orders keep by the first they keep by the others.
pub record IsAs (rules others : Task → Discipline) (orders keeps : Task → List Entry → Type 0)
    (t : Task) (x : Left) : Type 0 where
  pub same : rules t ≡ others t
  pub kept : orders t (newest_first x) → keeps t (newest_first x)

-- So a run by the first is one by the others.
module _ (rules others : Task → Discipline) (orders keeps : Task → List Entry → Type 0)
    (before : FloorTold) (end : EndedTold) (alike : OnRun end (IsAs rules others orders keeps)) where
  by_others : (P : (Task → Discipline) → Task → Left → Type 0)
      → ((t : Task) (x : Left) → rules t ≡ others t → P rules t x → P others t x)
      → OnRun end (P rules) → OnRun end (P others)
  by_others P so p = on_both end (IsAs rules others orders keeps) (P rules) (P others)
      (λ t x e. so t x e.same) alike p

  pub keeps_as : TaskKeeps rules orders before end → TaskKeeps others keeps before end
  keeps_as k = record {
    told = k.told;
    sound = k.sound;
    nothing = k.nothing;
    made = k.made;
    of_task = by_others AreRulesOf (λ t x e r. record {
      plan = ap (λ (q : Discipline). q.plan) (sym e) ∙ r.plan;
      served = r.served ∙ ap (λ (q : Discipline). q.served) e;
    }) k.of_task;
    legal = by_others IsLegal (λ t x e l.
        subst (λ (q : Discipline). LegalBy q (newest_first x)) e l) k.legal;
    race = k.race;
    paired = k.paired;
    kept = on_both end (IsAs rules others orders keeps) (IsKept orders) (IsKept keeps)
        (λ t x e l. e.kept l) alike k.kept;
    halts = k.halts;
    flag = k.flag;
    stopped = by_others IsStopped (λ t x e s.
        subst (λ (q : Discipline). Stops q.served (history_of x.journal)) e s) k.stopped;
    accounted = k.accounted;
    complete = k.complete;
    pipes = k.pipes;
    rooms = by_others HasRooms (λ t x e r. record {
      settings = r.settings;
      of_task = r.of_task;
      before = r.before;
      new = subst (λ (q : Discipline). AreNewBerths q.served r.before) e r.new;
      rooms = subst (λ (q : Discipline). Rooms (answer_after q) r.settings t.work.actions
          (history_of x.journal) x.lines 0 t.speeches.items r.before x.berths x.unsaid) e r.rooms;
    }) k.rooms;
    unsaid = k.unsaid;
    outs = k.outs;
    success = k.success;
    status = k.status;
    floor = k.floor;
    files = k.files;
  }

-- ---- over the reads before it

module _ (rules : Task → Discipline) (orders : Task → List Entry → Type 0)
    (before mid : FloorTold) (end : EndedTold) (same : SameFloor before mid) (later : before.faults ≤ mid.faults)
    (unfailed : IsFloorFailed end.fault → ⊥) where
  pub keeps_since : TaskKeeps rules orders mid end → TaskKeeps rules orders before end
  keeps_since k = record {
    told = k.told;
    sound = k.sound;
    nothing = k.nothing;
    made = record {
      left = made_since before mid end.floor same end.left k.made.left;
      few = few_since before mid end.floor same k.made.few;
    };
    of_task = k.of_task;
    legal = k.legal;
    race = k.race;
    paired = k.paired;
    kept = k.kept;
    halts = k.halts;
    flag = k.flag;
    stopped = k.stopped;
    accounted = k.accounted;
    complete = k.complete;
    pipes = k.pipes;
    rooms = k.rooms;
    unsaid = k.unsaid;
    outs = k.outs;
    success = k.success;
    status = k.status;
    floor = record {
      later = (let risen = k.floor.later in omega (arith, later, risen));
      rose = λ failed. absurd (unfailed failed);
    };
    files = k.files ∙ ap (λ f. f.files) same;
  }

-- ---- with no lane

-- all that is said of a run that this fault ended before its lanes were started
pub keeps_none : (rules : Task → Discipline) (orders : Task → List Entry → Type 0) (f : RunFault)
    (before mid : FloorTold)
    → SameFloor before mid → Counts before.faults mid.faults (IsFloorFailed (Some f))
    → TellsTask (Some f) None
    → TaskKeeps rules orders before (ended_told (fault_status f) (Some f) mid None nothing_left)
keeps_none rules orders f before mid same counts told = record {
  told = told;
  sound = tt;
  nothing = fault_nothing f;
  made = record {
    left = nothing_made before mid same;
    few = nothing_much before mid same;
  };
  of_task = tt;
  legal = tt;
  race = tt;
  paired = tt;
  kept = tt;
  halts = tt;
  flag = refl;
  stopped = tt;
  accounted = tt;
  complete = tt;
  pipes = tt;
  rooms = tt;
  unsaid = tt;
  outs = tt;
  success = λ none. absurd (cc);
  status = refl;
  floor = counts;
  files = ap (λ f. f.files) same;
}
