use Rattle.std.proofs.Common.{refl, ap, sym, ◌∙◌, subst, List}
use Rattle.message_service.proofs.Turns.{Spanned}
use Rattle.message_box.specs.States.{State}
use Rattle.message_box.specs.Sides.{state_at}
use Rattle.read_ahead.proofs.Lasting.{started, refilled, stopped, dealt, dealt_last}
use Rattle.read_ahead.proofs.answering.work.Goals as goal

pub loop-init : goal.loop-init
loop-init g c =
    let answers = g.V.Service.answers in
    let s = state_at c.args.caller.now.pass in
    let out = g.O.Sink.told c.args.out.now in
    let shop = g.S.Shop.told c.args.shop.now in
    record {
      same = (refl, refl, refl);
      here = ap (λ (x : State g.row.V-Message.Denot). x.left) c.requires.fresh;
      dealt = subst (λ (xs : List g.row.V-Message.Denot).
          Spanned answers s.taken xs out out shop shop)
          (sym c.new-queue.ensures.items) (started answers s out shop c.requires.fresh);
    }

pub returns-in-Err-clause-answered : goal.returns-in-Err-clause-answered
returns-in-Err-clause-answered g c =
    stopped g.V.Service.answers c.in-Err.finish c.loop.queue.items c.refill.new.queue.items
    (state_at c.loop.caller.pass) (state_at c.refill.new.caller.pass)
    (g.O.Sink.told c.args.out.now) (g.O.Sink.told c.loop.out)
    (g.S.Shop.told c.args.shop.now) (g.S.Shop.told c.loop.shop)
    c.loop.invariant.dealt c.in-Err.ensures.refills

pub returns-in-Err-answer_first-clause-answered : goal.returns-in-Err-answer_first-clause-answered
returns-in-Err-answer_first-clause-answered g c =
    let answers = g.V.Service.answers in
    let s' = state_at c.refill.new.caller.pass in
    let out = g.O.Sink.told c.args.out.now in
    let mid = g.O.Sink.told c.loop.out in
    let shop = g.S.Shop.told c.args.shop.now in
    let mid' = g.S.Shop.told c.loop.shop in
    dealt_last answers c.in-Err-answer_first.finish s'.taken c.refill.new.queue.items
    c.answer_first.new.queue.items out mid (g.O.Sink.told c.answer_first.new.out)
    shop mid' (g.S.Shop.told c.answer_first.new.shop)
    (refilled answers c.loop.queue.items c.refill.new.queue.items (state_at c.loop.caller.pass) s'
    out mid shop mid' c.loop.invariant.dealt c.in_default.ensures.refills)
    c.in-Err-answer_first.ensures

pub loop-preserved : goal.loop-preserved
loop-preserved g c =
    let answers = g.V.Service.answers in
    let i = c.loop.invariant in
    let same = c.in_default.ensures.same in
    let s' = state_at c.refill.new.caller.pass in
    let out = g.O.Sink.told c.args.out.now in
    let mid = g.O.Sink.told c.loop.out in
    let shop = g.S.Shop.told c.args.shop.now in
    let mid' = g.S.Shop.told c.loop.shop in
    record {
      same = (same.0 ∙ i.same.0, same.1 ∙ i.same.1, same.2 ∙ i.same.2);
      here = c.in_default.ensures.refills.2.1 ∙ i.here;
      dealt = dealt answers s'.taken c.refill.new.queue.items c.answer_first.new.queue.items
          out mid (g.O.Sink.told c.answer_first.new.out)
          shop mid' (g.S.Shop.told c.answer_first.new.shop)
          (refilled answers c.loop.queue.items c.refill.new.queue.items
          (state_at c.loop.caller.pass) s' out mid shop mid' i.dealt
          c.in_default.ensures.refills)
          c.in_default-answer_first.ensures;
    }
