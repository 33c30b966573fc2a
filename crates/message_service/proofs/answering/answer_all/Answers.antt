use Rattle.std.proofs.Common.{◌∙◌, ap}
use Rattle.std.specs.Prelude.{Err}
use Rattle.std.proofs.lemmas.Result.{err_from_is_err_and}
use Rattle.message_service.proofs.Turns.{loop_goes, loop_ends, loop_done, deals_cut}
use Rattle.message_service.proofs.answering.answer_all.Goals as goal

pub returns-in_err-answer_one-clause-answered : goal.returns-in_err-answer_one-clause-answered
returns-in_err-answer_one-clause-answered g c =
    let p = err_from_is_err_and c.from_residual.result c.from_residual.ensures.1 in
    rw (p.1 ∙ ap Err p.2)
    (loop_ends g.V.Service.answers c.args.messages.now c.loop-k.k c.index-messages-k.result
    c.loop-k-test.true c.index-messages-k.is
    c.in_err-answer_one.field-0.0
    (g.O.Sink.told c.args.out.now) (g.O.Sink.told c.loop-k.out) (g.O.Sink.told c.answer_one.new.out)
    (g.S.Shop.told c.args.shop.now) (g.S.Shop.told c.loop-k.shop)
    (g.S.Shop.told c.answer_one.new.shop) c.loop-k.invariant
    c.in_err-answer_one.ensures)

pub returns-in_err-answer_one-clause-err : goal.returns-in_err-answer_one-clause-err
returns-in_err-answer_one-clause-err g c =
    let p = err_from_is_err_and c.from_residual.result c.from_residual.ensures.1 in
    rw (p.1 ∙ ap Err p.2)
    (deals_cut g.V.Service.answers c.in_err-answer_one.field-0.0 _ _ _ _ _ _
    c.in_err-answer_one.ensures)

pub loop-k-preserved : goal.loop-k-preserved
loop-k-preserved g c =
    loop_goes g.V.Service.answers c.args.messages.now c.loop-k.k c.index-messages-k.result
    c.loop-k-test.true c.index-messages-k.is
    (g.O.Sink.told c.args.out.now) (g.O.Sink.told c.loop-k.out) (g.O.Sink.told c.answer_one.new.out)
    (g.S.Shop.told c.args.shop.now) (g.S.Shop.told c.loop-k.shop)
    (g.S.Shop.told c.answer_one.new.shop) c.loop-k.invariant c.in_ok-answer_one.ensures

pub returns-clause-answered : goal.returns-clause-answered
returns-clause-answered g c =
    loop_done g.V.Service.answers c.args.messages.now c.loop-k.k (g.O.Sink.told c.args.out.now)
    (g.O.Sink.told c.loop-k.out) (g.S.Shop.told c.args.shop.now) (g.S.Shop.told c.loop-k.shop)
    c.loop-k-test.false c.loop-k.invariant
