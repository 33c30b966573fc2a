-- Where a task was read, the lanes of its core keep what is told; where a fault or a refusal was, nothing is.
use Rattle.std.proofs.Common.{◌≡◌, ◌∙◌, Err, None, Some, ap, arith, map, refl, string_bytes, subst, sym}
use Rattle.build_report.specs.Faults.{fault_status}
use Rattle.build_report.specs.declared.fault.RunFault.TheVariants as fault
use Rattle.outside.specs.Causes.{Counts}
use Rattle.run_loading.specs.Reads.{IsFloorFailed}
use Rattle.run_tasks.specs.declared.task.Task.{Task}
use Rattle.worker_run.proofs.Fronts.{fault_course, fault_puts, fault_sink, fault_told, led_off, led_to, unstarted}
use Rattle.worker_run.proofs.Keeping.{keeps_none, keeps_since, on_both}
use Rattle.worker_run.proofs.Reading.{task_course, task_floor}
use Rattle.worker_run.specs.Fronts.{FrontLeads, HasReadBy, IsOfReading, fault_of}
use Rattle.worker_run.specs.Headline.{IsLegal, newest_first}
use Rattle.worker_run.specs.Seen.{EndedTold, ended_told, nothing_left}
use Rattle.worker_run.specs.declared.front.NoRun.{NoRun}
use Rattle.worker_run.proofs.by_front.run.Goals as goal

pub returns-in-Ok-clause-run : goal.returns-in-Ok-clause-run
returns-in-Ok-clause-run g c =
    let made = c.in-Ok.made in
    let core = g.N.Core.Rules in
    let b = core.plan made.core in
    let leads = g.N.Front.course (map string_bytes c.args.words.now) in
    let end = c.run_made.result.ended in
    let e = c.run_made.ensures in
    let before = g.F.Floor.told c.args.around.floor in
    let mid = g.F.Floor.told c.read.new.floor in
    let task = keeps_since (λ t. core.discipline b) (λ t. core.kept b) before mid end
    c.in-Ok.ensures.files c.in-Ok.ensures.floor.later
    (task_floor made.task end.fault end.task e.ended) e.task in
    rw (e.refused) (
      b,
      record {
        course = task_course (HasReadBy leads b) (λ x. x.0) before mid (made.task, b) end
            (led_to leads before mid made.task b c.in-Ok.ensures.course) e.log end.fault e.ended;
        task = task;
        promised = on_both end (IsLegal (λ t. core.discipline b)) (IsLegal (λ t. core.discipline b))
            (λ t x. g.N.Front.promised b (newest_first x))
            (λ t x legal _. c.in-Ok.ensures.promised (newest_first x) legal) task.legal task.legal;
      },
      e.paces,
    )

pub returns-in-Fault-clause-run : goal.returns-in-Fault-clause-run
returns-in-Fault-clause-run g c =
    let f = c.in-Fault.fault in
    let core = g.N.Core.Rules in
    let b = core.blank in
    let leads = g.N.Front.course (map string_bytes c.args.words.now) in
    let before = g.F.Floor.told c.args.around.floor in
    let mid = g.F.Floor.told c.read.new.floor in
    let led = led_off leads before mid b f (subst (λ (w : NoRun). FrontLeads before mid (Err w) leads)
    c.in-Fault.is c.in-Err.ensures.course) in
    let of = subst (λ (w : NoRun). IsOfReading (fault_of {T = Task} (Err w))) c.in-Fault.is
    c.in-Err.ensures.cause in
    rw (c.with_no_lane.ensures) (
      b,
      record {
        course = fault_course (HasReadBy leads b) (λ x. x.0) before mid f led;
        task = keeps_none (λ t. core.discipline b) (λ t. core.kept b) f before mid
            c.in-Err.ensures.files
            (subst (λ (w : NoRun). Counts before.faults mid.faults
            (IsFloorFailed (fault_of {T = Task} (Err w)))) c.in-Fault.is c.in-Err.ensures.floor)
            (fault_told (HasReadBy leads b) (λ x. x.0) before mid f of led);
        promised = tt;
      },
      unstarted g.W.Pacer.told c.args.around.pacer
          (ended_told (fault_status f) (Some f) mid None nothing_left) _ refl,
    )

pub returns-in-Fault-clause-report : goal.returns-in-Fault-clause-report
returns-in-Fault-clause-report g c =
    let f = c.in-Fault.fault in
    let b = g.N.Core.Rules.blank in
    let leads = g.N.Front.course (map string_bytes c.args.words.now) in
    let before = g.F.Floor.told c.args.around.floor in
    let mid = g.F.Floor.told c.read.new.floor in
    let led = led_off leads before mid b f (subst (λ (w : NoRun). FrontLeads before mid (Err w) leads)
    c.in-Fault.is c.in-Err.ensures.course) in
    let of = subst (λ (w : NoRun). IsOfReading (fault_of {T = Task} (Err w))) c.in-Fault.is
    c.in-Err.ensures.cause in
    rw (c.with_no_lane.ensures) (fault_puts (HasReadBy leads b) (λ x. x.0) before mid f
    (g.O.Sink.told c.args.out.now) of led)

pub returns-in-Fault-clause-sink : goal.returns-in-Fault-clause-sink
returns-in-Fault-clause-sink g c =
    let of = subst (λ (w : NoRun). IsOfReading (fault_of {T = Task} (Err w))) c.in-Fault.is
    c.in-Err.ensures.cause in
    rw (c.with_no_lane.ensures) (fault_sink c.in-Fault.fault (g.O.Sink.told c.args.out.now).faults of)

pub returns-in-NoStrategy-clause-run : goal.returns-in-NoStrategy-clause-run
returns-in-NoStrategy-clause-run g c =
    let leads = g.N.Front.course (map string_bytes c.args.words.now) in
    let before = g.F.Floor.told c.args.around.floor in
    let mid = g.F.Floor.told c.read.new.floor in
    let led = subst (λ (w : NoRun). FrontLeads before mid (Err w) leads) c.in-NoStrategy.is
    c.in-Err.ensures.course in
    let counts = subst (λ (w : NoRun). Counts before.faults mid.faults
    (IsFloorFailed (fault_of {T = Task} (Err w)))) c.in-NoStrategy.is c.in-Err.ensures.floor in
    rw (c.refused.ensures) (record {
      course = led;
      status = refl;
      fault = refl;
      task = refl;
      left = refl;
      floor = c.in-Err.ensures.files;
      counts = counts;
      back = refl;
    })

pub returns-in-NoStrategy-clause-sink : goal.returns-in-NoStrategy-clause-sink
returns-in-NoStrategy-clause-sink g c = record {
  later = omega arith;
  rose = λ failed. absurd (let other : None ≡ Some fault.SinkFailed =
      sym (ap (λ (e : EndedTold). e.fault) c.refused.ensures) ∙ failed in cc);
}
