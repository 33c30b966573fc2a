use Rattle.read_ahead.proofs.lanes.HallReadsCallerMailboxMessage.read.Goals as goal

pub returns-then-not-begin : goal.returns-then-not-begin
returns-then-not-begin g c = (
  c.stay_out.ensures.same,
  c.stay_out.ensures.leaves (g.T.Tap.told c.args.input.now),
)
