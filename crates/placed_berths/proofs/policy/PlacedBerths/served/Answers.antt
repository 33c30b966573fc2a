use Rattle.placed_berths.proofs.PoolsAt.{served_is}
use Rattle.placed_berths.proofs.policy.PlacedBerths.served.Goals as goal

pub returns-in-Shared : goal.returns-in-Shared
returns-in-Shared c =
    served_is c.args.self.now.seating _ c.args.plan.now _ c.in-Shared.is
    c.berths-in-Shared.ensures
