use Rattle.read_ahead.proofs.lanes.HallWorksCallerMailboxMessage.work.Goals as goal

pub returns-then-not-await_reader : goal.returns-then-not-await_reader
returns-then-not-await_reader g c = (
  c.call_off.ensures.same,
  c.call_off.ensures.leaves (g.O.Sink.told c.args.out.now) (g.S.Shop.told c.args.shop.now),
)
