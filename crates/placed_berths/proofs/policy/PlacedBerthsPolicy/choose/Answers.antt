use Rattle.placed_berths.proofs.PoolsAt.{shared_berth}
use Rattle.placed_berths.proofs.policy.PlacedBerthsPolicy.choose.Goals as goal

pub choose-requires-clause-berth : goal.choose-requires-clause-berth
choose-requires-clause-berth c =
    shared_berth c.args.self.now _ c.args.state.now c.args.berth c.in-Shared.is
    c.requires.reads.berths c.requires.berth
