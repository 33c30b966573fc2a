-- The number of Ticks behind a seating.
use Rattle.std.proofs.Common.{◌≡◌, ℕ, zero, suc, ◌<◌, ◌≤◌, List, Some, None, refl, ap, arith}
use Rattle.placed_rules.specs.declared.placed.Seating.{Seating}
use Rattle.placed_rules.specs.declared.placed.Seating.TheVariants.{Own, Pools}
use Rattle.placed_rules.specs.declared.pools.SharedPool.{SharedPool}
use Rattle.journal_text.specs.Placed.{ticks_for}

pub some_ticks : (s : Seating) (n : ℕ) → 0 < n → ticks_for s n ≡ Some (Some n)
some_ticks s zero more = absurd (omega arith)
some_ticks Own (suc n) more = refl
some_ticks (Pools pools instances) (suc n) more = refl

pub no_row : (s : Seating) (n : ℕ) → n ≤ 0 → s ≡ Own → ticks_for s n ≡ None
no_row s zero none is = ap (λ (x : Seating). ticks_for x 0) is
no_row s (suc n) none is = absurd (omega arith)

pub no_ticks : (s : Seating) (n : ℕ) (pools : List SharedPool) (instances : ℕ) → n ≤ 0 → s ≡ Pools pools instances → ticks_for s n ≡ Some None
no_ticks s zero pools instances none is = ap (λ (x : Seating). ticks_for x 0) is
no_ticks s (suc n) pools instances none is = absurd (omega arith)
