-- Lanes as the bits of a number: bit k is lane k.
use Rattle.std.specs.Prelude.{◌≡◌, ℕ, nat_lt, Bool, true, false, ◌&&◌}
use Rattle.std.specs.Int.{bit_at}

abbrev pub bit_for : Bool → ℕ
bit_for true = 1
bit_for false = 0

-- the bits of x are the lanes below n for which f holds
abbrev pub Marks : ℕ → ℕ → (ℕ → Bool) → Type 0
Marks x n f = (lane : ℕ) → bit_at x lane ≡ bit_for (nat_lt lane n && f lane)
