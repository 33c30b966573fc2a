use Rattle.std.proofs.Common.{ap}
use Rattle.seat_desk.specs.Passes.{mine}
use Rattle.proxy_words.specs.Ends.{may_halt}
use Rattle.tick_lane.proofs.Counting.{owes_nothing}
use Rattle.tick_lane.proofs.seat.TickStartLaneDeskBenchPassBench.run.Goals as goal

pub halt-none-requires-clause-may : goal.halt-none-requires-clause-may
halt-none-requires-clause-may g c =
    ap may_halt (owes_nothing c.new-caller.result.pass.lane (g.W.Pacer.told c.args.self.pacer)
    (g.W.Pacer.told c.tick_on.new.pacer) (mine c.tick_on.new.caller.pass) c.in-Err.ensures.err)
