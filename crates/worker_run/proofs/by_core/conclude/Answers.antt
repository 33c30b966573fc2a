-- A run that wanted memory doesn't end with the sink's fault. Where its lanes halted, it has put its report if it could.
use Rattle.std.proofs.Common.{◌≡◌, ◌∙◌, List, Some, ap, sym, subst, arith}
use Rattle.build_report.specs.declared.fault.RunFault.TheVariants as fault
use Rattle.build_report.specs.declared.fault.Stage.TheVariants as stage
use Rattle.exec_journal.specs.Entry.{Entry}
use Rattle.worker_run.proofs.Putting.{may_put}
use Rattle.worker_run.specs.Ends.{MayPut, report_by}
use Rattle.worker_run.specs.Seen.{EndedTold, RanTold}
use Rattle.worker_run.proofs.by_core.conclude.Goals as goal

pub returns-in-Some-During-clause-report : goal.returns-in-Some-During-clause-report
returns-in-Some-During-clause-report g c =
    let put = c.put_report.ensures in
    let old = g.O.Sink.told c.args.out.now in
    let new = g.O.Sink.told c.put_report.new.out in
    let same : c.ran.inside.laid.journal ≡ c.args.ran.left.journal =
    cc (ap (λ (r : RanTold). r.left.journal) c.ran.view_is) in
    rw (c.of-in-Some-During.ensures) (subst (λ (j : List Entry). MayPut (report_by
    (Some c.args.task) j) old new) same (may_put c.put_report.result (report_by (Some c.args.task)
    c.ran.inside.laid.journal) old new put.kind put.put put.sink))

pub returns-in-Some-During-clause-sink : goal.returns-in-Some-During-clause-sink
returns-in-Some-During-clause-sink g c = record {
  later = c.put_report.ensures.sink.later;
  rose = λ failed. absurd (let other : Some (fault.NoMemory stage.During) ≡ Some fault.SinkFailed =
      sym (ap (λ (e : EndedTold). e.fault) c.of-in-Some-During.ensures) ∙ failed in cc);
}

pub returns-in-Some-Before-clause-sink : goal.returns-in-Some-Before-clause-sink
returns-in-Some-Before-clause-sink g c = record {
  later = omega arith;
  rose = λ failed. absurd (let other : Some (fault.NoMemory stage.Before) ≡ Some fault.SinkFailed =
      sym (ap (λ (e : EndedTold). e.fault) c.of-in-Some-Before.ensures) ∙ failed in cc);
}
