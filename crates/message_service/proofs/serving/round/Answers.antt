use Rattle.std.proofs.Common.{◌∙◌, ap}
use Rattle.std.specs.Prelude.{Err}
use Rattle.std.proofs.lemmas.Result.{err_from_is_err_and}
use Rattle.message_service.proofs.Rounds.{handled_bad, round_cut}
use Rattle.message_service.proofs.serving.round.Goals as goal

pub returns-in_err-answer_all-clause-round : goal.returns-in_err-answer_all-clause-round
returns-in_err-answer_all-clause-round g c =
    let p = err_from_is_err_and c.from_residual.result c.from_residual.ensures.1 in
    let e = c.in_err-answer_all in
    let come = c.args.come.now in
    λ fed before s all.
    rw (p.1 ∙ ap Err p.2)
    (round_cut g.V.Service.framing g.V.Service.spells g.V.Service.answers e.field-0.0 come.goes_on
    fed before come.messages.items s _ _ _ _ e.ensures.err all
    (rw (c.deref.ensures.value) at e.ensures.answered))

pub returns-then-come-clause-round : goal.returns-then-come-clause-round
returns-then-come-clause-round g c =
    let come = c.args.come.now in
    λ fed before s all.
    record {
      more = come.messages.items;
      stands = rw (c.if-come.true) at all;
      handled = rw (c.deref.ensures.value) at c.in_ok-answer_all.ensures.answered;
    }

pub returns-else-come-clause-round : goal.returns-else-come-clause-round
returns-else-come-clause-round g c =
    let come = c.args.come.now in
    λ fed before s all.
    record {
      more = come.messages.items;
      stands = rw (c.if-come.false) at all;
      handled = handled_bad g.V.Service.answers come.messages.items _ _ _ _
          (rw (c.deref.ensures.value) at c.in_ok-answer_all.ensures.answered);
    }
