-- The pool of a berth stands at the place that is said.
use Rattle.std.proofs.Common.{◌≡◌, ℕ, suc, ◌+◌, ◌-◌, nat_lt, cond, List, [], ◌∷◌, Some, ap, ◌∙◌, arith}
use Rattle.std.specs.Prelude.{slice_get}
use Rattle.exec_journal.proofs.Ruled.{by_bool}
use Rattle.placed_rules.specs.declared.pools.SharedPool.{SharedPool}
use Rattle.placed_rules.specs.Pools.{pool_at, pool_from}

from_place : (xs : List SharedPool) (p w : ℕ) (pool : SharedPool) → pool_from xs w ≡ Some pool
    → (n : ℕ) × (pool_at xs p w ≡ p + n) × (slice_get xs n ≡ Some pool)
from_place [] p w pool h = absurd (cc)
from_place (x ∷ xs) p w pool h =
    by_bool (nat_lt w x.berths)
    (λ b. cond b (Some x) (pool_from xs (w - x.berths)) ≡ Some pool
    → (n : ℕ) × (cond b p (pool_at xs (suc p) (w - x.berths)) ≡ p + n)
    × (slice_get (x ∷ xs) n ≡ Some pool))
    (λ _ e. let same : p ≡ p + 0 = omega arith in (0, same, e))
    (λ _ e. let later = from_place xs (suc p) (w - x.berths) pool e in
    let same : suc p + later.0 ≡ p + suc later.0 = omega arith in
    (suc later.0, later.1 ∙ same, later.2)) h

pub stands_there : (pools : List SharedPool) (w : ℕ) (pool : SharedPool)
    → pool_from pools w ≡ Some pool → slice_get pools (pool_at pools 0 w) ≡ Some pool
stands_there pools w pool h =
    let found = from_place pools 0 w pool h in
    let same : 0 + found.0 ≡ found.0 = omega arith in
    ap (slice_get pools) (found.1 ∙ same) ∙ found.2
