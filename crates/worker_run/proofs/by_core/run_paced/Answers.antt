-- What the lanes of the task say is what is told.
use Rattle.std.proofs.Common.{◌≡◌, List, length, refl, subst, ◌∙◌}
use Rattle.core_contract.specs.Discipline.{Discipline}
use Rattle.core_contract.specs.Duties.{proxy_lane}
use Rattle.run_plan.specs.declared.plan.Speech.{Speech}
use Rattle.run_tasks.specs.declared.task.Task.{Task}
use Rattle.worker_run.specs.Lanes.{WhereWhole}
use Rattle.worker_run.specs.Seen.{Left}
use Rattle.lane_runs.specs.Layout.{has_halt}
use Rattle.worker_run.proofs.Making.{in_time}
use Rattle.worker_run.proofs.Reading.{task_ended, task_floor, task_nothing, task_told}
use Rattle.worker_run.proofs.Said.{RanBy, are_rules, during_said, flag_is, flagged, halts, has_outs, has_pipes, has_race, has_rooms, has_unsaid, is_accounted, is_complete, is_kept, is_legal, is_paired, is_stopped, on_run, succeeds, where_ran}
use Rattle.worker_run.specs.Headline.{AreRulesOf, HasOuts, HasPipes, HasRace, HasRooms, HasUnsaid, IsAccounted, IsComplete, IsKept, IsLegal, IsPaired, IsSound, IsStopped}
use Rattle.lane_threads.specs.Beside.{count_of}
use Rattle.lane_runs.specs.Paced.{HasPaced}
use Rattle.worker_run.proofs.Reading.{unless_lost}
use Rattle.worker_run.specs.Pacing.{tick_lane_of}
use Rattle.worker_run.specs.Ends.{is_halted}
use Rattle.worker_run.specs.Histories.{history_of}
use Rattle.worker_run.proofs.by_core.run_paced.Goals as goal

pub conclude-requires-clause-in_time : goal.conclude-requires-clause-in_time
conclude-requires-clause-in_time g c =
    in_time c.run_plan-ran.result.0.fault _ c.run_plan-ran.ensures.run

pub returns-clause-ended : goal.returns-clause-ended
returns-clause-ended g c =
    task_ended c.run_plan-ran.result.0.fault c.args.task c.conclude.result.fault
    c.conclude.result.task c.conclude.ensures.kind

pub returns-clause-log : goal.returns-clause-log
returns-clause-log g c = rw (c.conclude.ensures.floor) c.run_plan-ran.ensures.log

pub returns-clause-run : goal.returns-clause-run
returns-clause-run g c =
    let t = c.args.task in
    let ran = c.run_plan-ran.result.0 in
    let when = ran.fault in
    let x = ran.left in
    let end = c.conclude.result in
    let e = c.conclude.ensures in
    let kind = e.kind in
    let r = g.C.Rules in
    let p = g.C.Rules.plan c.args.core in
    let q : Discipline = r.discipline p in
    let is = c.goes_by_discipline.ensures.is p in
    let fits = c.requires.fits in
    let run = where_ran q t (count_of c.args.around.pacer) when x
    c.as_slice-2.result.now _ c.as_slice-3.result.now c.run_plan-ran.ensures.run
    (record { plan = refl; commands = c.as_slice.ensures.value; verbose = refl })
    c.as_slice-2.ensures.value c.as_slice-3.ensures in
    let lost = c.run_plan-ran.ensures.lost in
    let Ran = RanBy q t when x in
    record {
      told = task_told t end.fault end.task (task_ended when t end.fault end.task kind);
      sound = on_run when t x end Ran IsSound kind run e.left (λ _. c.requires.sound);
      nothing = task_nothing when t end.fault end.task x end.left kind lost e.left;
      made = record {
        left = rw (e.floor, e.left) c.run_plan-ran.ensures.made;
        few = rw (e.floor) c.run_plan-ran.ensures.few;
      };
      of_task = on_run when t x end Ran (AreRulesOf (λ t. q)) kind run e.left
          (λ r. are_rules q is t fits when x r);
      legal = on_run when t x end Ran (IsLegal (λ t. q)) kind run e.left
          (λ r. is_legal q is t fits when x r);
      race = on_run when t x end Ran HasRace kind run e.left
          (λ r. has_race q is t fits when x r);
      paired = on_run when t x end Ran IsPaired kind run e.left
          (λ r. is_paired q is t fits when x r);
      kept = on_run when t x end Ran (IsKept (λ t. r.kept p)) kind run e.left
          (λ s. is_kept q is t fits when x s (r.kept p) (λ j. c.goes_by_discipline.ensures.kept p j));
      halts = on_run when t x end Ran
          (λ t x. has_halt (history_of x.journal) ≡ is_halted end.fault) kind run e.left
          (λ r. halts q is t fits when x r
          ∙ during_said when t end.fault end.task kind);
      flag = rw (e.left) (flag_is when x Ran run lost
          (λ r. flagged q is t fits when x r));
      stopped = on_run when t x end Ran (IsStopped (λ t. q)) kind run e.left
          (λ r. is_stopped q is t fits when x r);
      accounted = on_run when t x end Ran IsAccounted kind run e.left
          (λ r. is_accounted q is t fits when x r);
      complete = on_run when t x end Ran IsComplete kind run e.left
          (λ r. is_complete q is t fits when x r);
      pipes = on_run when t x end Ran HasPipes kind run e.left
          (λ r. has_pipes q is t fits when x r);
      rooms = on_run when t x end Ran (HasRooms (λ t. q)) kind run e.left
          (λ r. has_rooms q is t fits when x r);
      unsaid = on_run when t x end Ran HasUnsaid kind run e.left
          (λ r. has_unsaid q is t fits when x r);
      outs = on_run when t x end Ran HasOuts kind run e.left
          (λ r. has_outs q is t fits when x r);
      success = succeeds t x end e.left e.status when Ran
          (λ r. is_complete q is t fits when x r)
          (λ r. halts q is t fits when x r) kind run;
      status = e.status;
      floor = record {
        later = rw (e.floor) c.run_plan-ran.ensures.count;
        rose = λ failed. absurd (task_floor t end.fault end.task
            (task_ended when t end.fault end.task kind) failed);
      };
      files = rw (e.floor) c.run_plan-ran.ensures.files;
    }

pub returns-clause-ticks : goal.returns-clause-ticks
returns-clause-ticks g c =
    let t = c.args.task in
    let when = c.run_plan-ran.result.0.fault in
    let x = c.run_plan-ran.result.0.left in
    let end = c.conclude.result in
    let e = c.conclude.ensures in
    let before = c.args.around.pacer in
    let after = c.run_plan-ran.result.1 in
    let Paced : Task → Left → Type 0 =
    λ t x. HasPaced g.W.Pacer.told (tick_lane_of t) before after (history_of x.journal) in
    record {
      run = on_run when t x end (Paced t x) Paced e.kind
          (subst (λ (spoken : List Speech). WhereWhole when (HasPaced g.W.Pacer.told
          (proxy_lane (length spoken)) before after (history_of x.journal)))
          c.as_slice-2.ensures.value c.run_plan-ran.ensures.ticks) e.left (λ p. p);
      none = unless_lost when t end.fault end.task (after ≡ before) e.kind
          c.run_plan-ran.ensures.unpaced;
    }
