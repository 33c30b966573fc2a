-- A run that had no fault, and ends late with one: all that was promised of it is promised still.
use Rattle.std.proofs.Common.{◌≡◌, ◌∙◌, Option, Some, None, Ok, Err, refl, sym, subst}
use Rattle.build_report.specs.Faults.{fault_status}
use Rattle.build_report.specs.declared.fault.RunFault.TheVariants as fault
use Rattle.build_report.specs.declared.fault.RunFault.{RunFault}
use Rattle.build_report.specs.declared.fault.Stage.TheVariants as stage
use Rattle.lane_runs.specs.Layout.{has_halt}
use Rattle.outside.specs.Told.{FloorTold}
use Rattle.run_loading.specs.Reads.{IsFloorFailed, Reads}
use Rattle.run_plan.specs.declared.plan.Plan.{Plan}
use Rattle.run_tasks.specs.Course.{Course, Made}
use Rattle.run_tasks.specs.declared.task.Task.{Task}
use Rattle.tool_words.specs.declared.options.Options.{Options}
use Rattle.worker_run.specs.Ends.{HasCourse, HasLed, IsLate, LeadsTo, LeavesNew, TellsTask, UnlessEarly, is_halted}
use Rattle.worker_run.specs.Headline.{AreRulesOf, HasOuts, HasPipes, HasRace, HasRooms, HasUnsaid, IsAccounted, IsComplete, IsFew, IsKept, IsLegal, IsNeverStuck, IsOwnLegal, IsPaired, IsSound, IsStopped, OnRun, RunKeeps, TaskKeeps, UnlessRun, own_kept, own_lanes, own_rules}
use Rattle.worker_run.specs.Histories.{history_of}
use Rattle.worker_run.specs.Seen.{EndedTold, Left}

-- what holds of the two late faults holds of each
pub by_late : (P : RunFault → Type 0) (f : RunFault) → IsLate f → P fault.SinkFailed
    → P (fault.NoMemory stage.After) → P f
by_late P fault.SinkFailed late sink memory = sink
by_late P (fault.NoMemory stage.After) late sink memory = memory
by_late P (fault.NoMemory stage.Before) late sink memory = absurd (cc)
by_late P (fault.NoMemory stage.During) late sink memory = absurd (cc)
by_late P fault.Words late sink memory = absurd late
by_late P (fault.List x) late sink memory = absurd late
by_late P (fault.Flags a x) late sink memory = absurd late
by_late P (fault.Absent at) late sink memory = absurd late
by_late P (fault.FloorFailed at) late sink memory = absurd late

-- what was read led to the task, which was run
abbrev of_task : Task × Plan → Task
of_task made = made.0

leads_late : (made : Made) (f : RunFault) (task : Option Task) → IsLate f
    → LeadsTo of_task made None task → LeadsTo of_task made (Some f) task
leads_late (Err g) f task late led = absurd (cc)
leads_late (Ok made) f task late led =
    by_late (λ g. LeadsTo of_task (Ok made) (Some g) task) f late (tt, led.1) (tt, led.1)

course_late : (options : Option Options) (before now : FloorTold) (f : RunFault)
    (task : Option Task) → IsLate f → Reads before now (HasLed (Course options) of_task None task)
    → UnlessEarly (Some f) (Reads before now (HasLed (Course options) of_task (Some f) task))
course_late options before now f task late read =
    let again : Reads before now (HasLed (Course options) of_task (Some f) task) = (
      read.0,
      read.1,
      read.2,
      (read.3.0, read.3.1, leads_late read.3.0 f task late read.3.2),
    ) in
    by_late (λ g. UnlessEarly (Some g) (Reads before now (HasLed (Course options) of_task (Some f) task))) f late
    again again

told_late : (f : RunFault) (task : Option Task) → IsLate f → TellsTask None task
    → TellsTask (Some f) task
told_late f task late told = by_late (λ g. TellsTask (Some g) task) f late told told

not_floor : (f : RunFault) → IsLate f → IsFloorFailed (Some f) → ⊥
not_floor f late = by_late (λ g. IsFloorFailed (Some g) → ⊥) f late (λ no. no) (λ no. no)

halted_late : (f : RunFault) → IsLate f → is_halted (Some f) ≡ is_halted None
halted_late f late = by_late (λ g. is_halted (Some g) ≡ is_halted None) f late refl refl

module _ (options : Option Options) (before : FloorTold) (end next : EndedTold) (f : RunFault)
    (late : IsLate f) (all : RunKeeps options before end) (none : end.fault ≡ None)
    (fault_is : next.fault ≡ Some f) (status_is : next.status ≡ fault_status f)
    (task_is : next.task ≡ end.task) (left_is : next.left ≡ end.left)
    (floor_is : next.floor ≡ end.floor) where
  was : TaskKeeps own_rules own_kept before end
  was = all.task

  told_before : TellsTask None end.task
  told_before = subst (λ (o : Option RunFault). TellsTask o end.task) none was.told

  course_before : HasCourse options before end
      → UnlessEarly None (Reads before end.floor (HasLed (Course options) of_task None end.task))
  course_before course = subst (λ (o : Option RunFault). UnlessEarly o
      (Reads before end.floor (HasLed (Course options) of_task o end.task))) none course

  halts_before : OnRun end (λ t x. has_halt (history_of x.journal) ≡ is_halted None)
  halts_before = subst (λ (o : Option RunFault). OnRun end (λ t x.
      has_halt (history_of x.journal) ≡ is_halted o)) none was.halts

  on : (P : Task → Left → Type 0) → OnRun end P → OnRun next P
  on P p = rw (task_is, left_is) p

  task_late : TaskKeeps own_rules own_kept before next
  task_late = record {
    told = rw (fault_is, task_is) (told_late f end.task late told_before);
    sound = on IsSound was.sound;
    nothing = subst (λ (o : Option Task). UnlessRun o (LeavesNew next.fault next.left))
        (sym (task_is ∙ told_before.1)) tt;
    made = record {
      left = rw (floor_is, left_is) was.made.left;
      few = rw (floor_is) was.made.few;
    };
    of_task = on (AreRulesOf own_rules) was.of_task;
    legal = on (IsLegal own_rules) was.legal;
    race = on HasRace was.race;
    paired = on IsPaired was.paired;
    kept = on (IsKept own_kept) was.kept;
    halts = rw (fault_is, task_is, left_is, halted_late f late) halts_before;
    flag = rw (left_is) was.flag;
    stopped = on (IsStopped own_rules) was.stopped;
    accounted = on IsAccounted was.accounted;
    complete = on IsComplete was.complete;
    pipes = on HasPipes was.pipes;
    rooms = on (HasRooms own_rules) was.rooms;
    outs = on HasOuts was.outs;
    unsaid = on HasUnsaid was.unsaid;
    success = λ is. absurd (cc (is, fault_is));
    status = rw (fault_is) status_is;
    floor = record {
      later = rw (floor_is) was.floor.later;
      rose = λ failed. absurd (not_floor f late
          (subst IsFloorFailed fault_is failed));
    };
    files = rw (floor_is) was.files;
  }

  pub keeps_late : RunKeeps options before next
  keeps_late = record {
    course = rw (fault_is, task_is, floor_is) (course_late options before end.floor f end.task
        late (course_before all.course));
    task = task_late;
    legal = on IsOwnLegal all.legal;
    awaited = on (IsNeverStuck own_rules own_lanes) all.awaited;
    few = on IsFew all.few;
  }
