use Rattle.std.proofs.Common.{refl}
use Rattle.desk_machines.proofs.Exchanged.{two_numbered, even, odd}
use Rattle.desk_machines.proofs.exchanging.lanes_of.Goals as goal

pub loop-pair-preserved : goal.loop-pair-preserved
loop-pair-preserved c =
    two_numbered c.args.count c.loop-pair.pair c.loop-pair.lanes.items c.push.new.self.items c.push-in-loop-pair.new.self.items _ _ c.loop-pair.invariant
    c.in_ok-push.ensures.items c.in_ok-push-2.ensures.items (refl, refl, even c.loop-pair.pair) (refl, refl, odd c.loop-pair.pair)
