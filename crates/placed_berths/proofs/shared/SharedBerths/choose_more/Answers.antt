use Rattle.std.proofs.Common.{ap, sym, ◌∙◌}
use Rattle.placed_rules.specs.Pools.{pool_from}
use Rattle.placed_berths.specs.Basis.{shared_by}
use Rattle.placed_berths.specs.PoolLines.{pool_within}
use Rattle.placed_berths.proofs.shared.SharedBerths.choose_more.Goals as goal

pub evict-requires-clause-berth : goal.evict-requires-clause-berth
evict-requires-clause-berth c =
    pool_within (shared_by c.args.self.now c.args.state.now.plan) c.args.berth _
    (sym (c.in_ok-pool.ensures ∙ ap (λ xs. pool_from xs c.args.berth) c.as_slice.ensures))

pub launch-requires-clause-berth : goal.launch-requires-clause-berth
launch-requires-clause-berth c =
    pool_within (shared_by c.args.self.now c.args.state.now.plan) c.args.berth _
    (sym (c.in_ok-pool.ensures ∙ ap (λ xs. pool_from xs c.args.berth) c.as_slice.ensures))
