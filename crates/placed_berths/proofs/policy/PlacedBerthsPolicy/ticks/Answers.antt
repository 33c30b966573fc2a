use Rattle.std.proofs.Common.{Some, arith}
use Rattle.placed_berths.specs.Basis.{seating_in}
use Rattle.placed_berths.specs.Laws.{few_in}
use Rattle.placed_berths.proofs.policy.PlacedBerthsPolicy.ticks.Goals as goal

pub overflow_mul-result : goal.overflow_mul-result
overflow_mul-result c =
    let few = few_in c.args.plan.now (seating_in c.args.self.now.seating) (Some 0) c.requires in
    let is = c.served.ensures in omega (arith, few, is)
