use Rattle.std.proofs.Common.{refl, List, true, false}
use Rattle.exec_journal.specs.declared.call.Answer.{Answer}
use Rattle.answer_reader.specs.Says.{Hears, SaysFirst}
use Rattle.answer_reader.proofs.Speeches.{says_first}
use Rattle.core_contract.specs.Laws as laws
use Rattle.tap_lane.specs.Heard.{AfterAll}
use Rattle.tap_lane.proofs.Goings.{went_none, went_so, went_one, always_err, not_ok}
use Rattle.tap_lane.proofs.Passing.{same_now, same_then, now_at}
use Rattle.tap_lane.proofs.hearing.TapLane+Bench+B+P+C.tell_all.Goals as goal

pub loop-init : goal.loop-init
loop-init g c = record {
  same = same_now c.args.self.now;
  hears = c.requires;
  went = λ s fed answers x. went_none c.args.line answers _ _ _ refl x;
}

pub returns-in_err-answer-clause-err : goal.returns-in_err-answer-clause-err
returns-in_err-answer-clause-err g c =
    always_err c.from_residual.result _ (λ s fed answers x.
    went_so c.args.line answers _ _ _ (λ (xs : List Answer). Hears s fed xs c.loop.reader)
    (SaysFirst s fed) refl (λ xs y. says_first s fed xs c.loop.reader y)
    (c.loop.invariant.went s fed answers x))

pub loop-preserved-in-Continue-branch-3 : goal.loop-preserved-in-Continue-branch-3
loop-preserved-in-Continue-branch-3 g c =
    let i = c.loop.invariant in
    let told = c.in_ok-tell_answer-in-Answer.ensures.ok in
    let gave = rw (c.in-Answer.is) at (c.in_ok-answer.ensures.ok) in
    record {
      same = same_then c.args.self.now c.loop.self c.tell_answer.new.self i.same
          c.tell_answer.ensures.same;
      hears = now_at g.C.Rules.discipline (laws.Hears c.args.line) (laws.Hears c.args.line) c.loop.self
          c.tell_answer.new.self c.tell_answer.ensures.same i.hears told.3;
      went = λ s fed answers x. went_one c.args.line answers _ _ _
          (λ (xs : List Answer). Hears s fed xs c.loop.reader) _ told.0 c.in-Answer.answer told.2
          told.1 (λ xs y. gave s fed xs y) (i.went s fed answers x);
    }

pub returns-in_err-tell_answer-in-Answer-clause-err :
    goal.returns-in_err-tell_answer-in-Answer-clause-err
returns-in_err-tell_answer-in-Answer-clause-err g c =
    always_err c.from_residual-in_err-tell_answer-in-Answer.result _ (λ s fed answers x.
    went_so c.args.line answers _ _ _ (λ (xs : List Answer). Hears s fed xs c.loop.reader)
    (SaysFirst s fed) c.in_err-tell_answer-in-Answer.ensures.err
    (λ xs y. says_first s fed xs c.loop.reader y)
    (c.loop.invariant.went s fed answers x))

pub returns-in_err-answer-clause-same : goal.returns-in_err-answer-clause-same
returns-in_err-answer-clause-same g c = c.loop.invariant.same

pub returns-in_err-answer-clause-hears : goal.returns-in_err-answer-clause-hears
returns-in_err-answer-clause-hears g c = c.loop.invariant.hears

pub returns-in-NotYet-clause-same : goal.returns-in-NotYet-clause-same
returns-in-NotYet-clause-same g c = c.loop.invariant.same

pub returns-in-NotYet-clause-hears : goal.returns-in-NotYet-clause-hears
returns-in-NotYet-clause-hears g c = c.loop.invariant.hears

pub returns-in-Bad-clause-same : goal.returns-in-Bad-clause-same
returns-in-Bad-clause-same g c = c.loop.invariant.same

pub returns-in-Bad-clause-hears : goal.returns-in-Bad-clause-hears
returns-in-Bad-clause-hears g c = c.loop.invariant.hears

pub returns-in_err-answer-clause-ok : goal.returns-in_err-answer-clause-ok
returns-in_err-answer-clause-ok g c =
    not_ok c.from_residual.result _ c.from_residual.ensures.0

pub returns-in_err-tell_answer-in-Answer-clause-ok :
    goal.returns-in_err-tell_answer-in-Answer-clause-ok
returns-in_err-tell_answer-in-Answer-clause-ok g c =
    let given = c.from_residual-in_err-tell_answer-in-Answer in
    not_ok given.result _ given.ensures.0

pub tell_answer-requires : goal.tell_answer-requires
tell_answer-requires g c = c.loop.invariant.hears

pub returns-in_err-tell_answer-in-Answer-clause-same :
    goal.returns-in_err-tell_answer-in-Answer-clause-same
returns-in_err-tell_answer-in-Answer-clause-same g c =
    same_then c.args.self.now c.loop.self c.tell_answer.new.self c.loop.invariant.same
    c.tell_answer.ensures.same

pub returns-in-NotYet-clause-ok : goal.returns-in-NotYet-clause-ok
returns-in-NotYet-clause-ok g c =
    let gave = rw (c.in-NotYet.is) at (c.in_ok-answer.ensures.ok) in
    λ s fed answers x. went_so c.args.line answers _ _ _
    (λ (xs : List Answer). Hears s fed xs c.loop.reader)
    (AfterAll s fed c.next-in-loop.new.self true) refl (λ xs y. gave s fed xs y)
    (c.loop.invariant.went s fed answers x)

pub returns-in-Bad-clause-ok : goal.returns-in-Bad-clause-ok
returns-in-Bad-clause-ok g c =
    let gave = rw (c.in-Bad.is) at (c.in_ok-answer.ensures.ok) in
    λ s fed answers x. went_so c.args.line answers _ _ _
    (λ (xs : List Answer). Hears s fed xs c.loop.reader)
    (AfterAll s fed c.next-in-loop.new.self false) refl (λ xs y. gave s fed xs y)
    (c.loop.invariant.went s fed answers x)

pub loop-preserved : goal.loop-preserved
loop-preserved g c =
    let i = c.loop.invariant in
    let gave = rw (c.in-More.is) at (c.in_ok-answer.ensures.ok) in
    record {
      same = i.same;
      hears = i.hears;
      went = λ s fed answers x. went_so c.args.line answers _ _ _
          (λ (xs : List Answer). Hears s fed xs c.loop.reader)
          (λ (xs : List Answer). Hears s fed xs c.next-in-loop.new.self) refl
          (λ xs y. (gave s fed xs y).0) (i.went s fed answers x);
    }
