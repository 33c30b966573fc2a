-- Tables of sound pools in which nothing was called yet stand for the empty journal.
use Rattle.std.proofs.Common.{◌≡◌, ℕ, [], sym, subst}
use Rattle.placed_rules.specs.declared.pools.SharedPlan.{SharedPlan}
use Rattle.placed_rules.specs.Pools.{SoundPools, seats}
use Rattle.shared_laws.specs.Spoken.{IsSpoken, berths_from}
use Rattle.shared_laws.proofs.Noted.{begins}
use Rattle.placed_berths.specs.declared.shared.SharedBerths.{SharedBerths}
use Rattle.placed_berths.specs.Stands.{PoolsStand}

pub pools_begun : (q : SharedPlan) (m : SharedBerths) → SoundPools q → m.pools ≡ q.pools
    → m.instances ≡ q.instances → m.spoken.items ≡ berths_from 0 (seats q) → PoolsStand q m []
pools_begun q m sound pools instances spoken = record {
  sound = sound;
  pools = pools;
  instances = instances;
  spoken = subst (λ ws. IsSpoken (seats q) [] ws) (sym spoken) (begins q);
}
