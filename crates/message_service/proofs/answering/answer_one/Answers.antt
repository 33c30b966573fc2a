use Rattle.message_service.specs.Ends.{end_of}
use Rattle.message_service.proofs.Turns.{dealt}
use Rattle.message_service.proofs.answering.answer_one.Goals as goal

pub returns-in-Ok : goal.returns-in-Ok
returns-in-Ok g c =
    let e = c.in-Ok.ensures in
    dealt g.V.Service.answers (end_of c.put.result) c.args.message.now c.args.behind.now
    c.in-Ok.reply e.0 (g.O.Sink.told c.args.out.now) (g.O.Sink.told c.put.new.out)
    (g.S.Shop.told c.args.shop.now) (g.S.Shop.told c.answer.new.shop) e.1 e.2 c.put.ensures
