use Rattle.std.proofs.Common.{Some, arith}
use Rattle.placed_berths.specs.Basis.{seating_in}
use Rattle.placed_berths.specs.Laws.{few_in}
use Rattle.placed_berths.proofs.policy.PlacedBerthsPolicy.berths.Goals as goal

pub overflow_add-result : goal.overflow_add-result
overflow_add-result c =
    let few = few_in c.args.plan.now (seating_in c.args.self.now.seating) (Some 0) c.requires in
    let is = c.served-count.ensures in omega (arith, few, is)
