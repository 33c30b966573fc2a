use Rattle.std.proofs.Common.{Option, ap, sym, ◌∙◌}
use Rattle.std.specs.Prelude.{slice_get}
use Rattle.placed_rules.specs.Pools.{pool_at}
use Rattle.placed_berths.specs.Basis.{shared_by}
use Rattle.placed_berths.specs.Counts.{Facts}
use Rattle.placed_berths.specs.Pooled.{first_starved}
use Rattle.placed_berths.proofs.PoolPlaces.{stands_there}
use Rattle.placed_berths.proofs.Searched.{least_is}
use Rattle.placed_berths.proofs.shared.SharedBerths.first_starved.Goals as goal

pub least_among-requires : goal.least_among-requires
least_among-requires c =
    let pools = c.args.self.now.pools in
    λ g a b queued. record {
      own = ap (slice_get pools) (c.pool_at.ensures
          ∙ ap (λ xs. pool_at xs 0 c.args.berth) c.as_slice.ensures)
          ∙ stands_there pools c.args.berth c.args.pool.now c.requires.own;
      reads = c.requires.shared.pools;
    }

pub first_lacking-requires-clause-pool : goal.first_lacking-requires-clause-pool
first_lacking-requires-clause-pool c =
    let pools = c.args.self.now.pools in record {
      own = ap (slice_get pools) (c.pool_at.ensures
          ∙ ap (λ xs. pool_at xs 0 c.args.berth) c.as_slice.ensures)
          ∙ stands_there pools c.args.berth c.args.pool.now c.requires.own;
      reads = c.requires.shared.pools;
    }

pub returns-in-None : goal.returns-in-None
returns-in-None c =
    let s = c.args.state.now in
    let q = shared_by c.args.self.now s.plan in
    c.least_among.ensures ∙ least_is q s c.args.pool.now
    ∙ ap (λ (d : Option Facts). first_starved q d s c.args.pool.now) (sym c.in-None.is)
