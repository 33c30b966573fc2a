use Rattle.std.proofs.Common.{◌∙◌}
use Rattle.work_lanes.specs.Calls.{begun_at}
use Rattle.work_lanes.proofs.Following.{answers_next, did_next}
use Rattle.work_lanes.proofs.handling.work.Goals as goal

pub loop-preserved : goal.loop-preserved
loop-preserved g c =
    let number = g.H.Kind.number in
    let cancels = g.H.Kind.cancels in
    let i = c.loop.invariant in
    let t = c.in_ok-asked.ensures in
    let a = c.in_ok-answer_one.ensures in
    let asked = c.in-Some-2.asked in
    let more = rw (c.in-Some-2.is) at t.begun in
    record {
      same = (
        a.same.0 ∙ (t.same.0 ∙ i.same.0),
        a.same.1 ∙ (t.same.1 ∙ i.same.1),
        a.same.2 ∙ (t.same.2 ∙ i.same.2),
      );
      answered = answers_next g.H.Answerer.answers asked.cancelled c.args.handler.now
          (begun_at number cancels c.loop.flag.caller.pass)
          (begun_at number cancels c.take.new.caller.pass)
          (begun_at number cancels c.answer_one.new.flag.caller.pass) c.loop.handler asked.request
          c.answer_one.new.handler i.answered more a.begun a.answered;
    }

pub returns-in_err-answer_one-clause-followed : goal.returns-in_err-answer_one-clause-followed
returns-in_err-answer_one-clause-followed g c =
    let number = g.H.Kind.number in
    let cancels = g.H.Kind.cancels in
    let t = c.in_ok-asked.ensures in
    let a = c.in_err-answer_one.ensures in
    let asked = c.in-Some-2.asked in
    let more = rw (c.in-Some-2.is) at t.begun in
    did_next g.H.Answerer.answers g.H.Answerer.breaks asked.cancelled c.args.handler.now
    (begun_at number cancels c.loop.flag.caller.pass)
    (begun_at number cancels c.take.new.caller.pass)
    (begun_at number cancels c.answer_one.new.flag.caller.pass) c.loop.handler asked.request
    c.answer_one.new.handler c.loop.invariant.answered more a.begun a.did
