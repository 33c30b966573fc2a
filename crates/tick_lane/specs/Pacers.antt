-- How a pacer counts ticks.
use Rattle.std.specs.Prelude.{◌≡◌, ◌⊎◌, ℕ, ◌+◌, ◌-◌, ◌^◌, min}

-- the last value of the count
abbrev pub last_tick : ℕ
last_tick = 2 ^ 64 - 1

-- the count after one tick more
abbrev pub next_tick : ℕ → ℕ
next_tick told = min (told + 1) last_tick

-- the count rose by so many, or stands at its last value
abbrev pub RoseBy : ℕ → ℕ → ℕ → Type 0
RoseBy ticks told told' = (told' ≡ told + ticks) ⊎ (told' ≡ last_tick)
