-- What the adder has added.
use Rattle.std.specs.Prelude.{◌≡◌, ℕ, ◌+◌, ◌%◌, ◌^◌, List, [], ◌∷◌}
use Rattle.plain_values.specs.declared.entry.Entry.{Entry}
use Rattle.desk_machines.specs.declared.adder.Add.{Add}

-- the sum of the numbers of a history
abbrev pub added : List (Entry Add ℕ) → ℕ
added [] = 0
added (e ∷ es) = e.call.number + added es

-- each reply is the sum so far modulo 2^64, where the sum before is n
abbrev pub SumsFrom : ℕ → List (Entry Add ℕ) → Type 0
SumsFrom n [] = Unit {0}
SumsFrom n (e ∷ es) = (e.reply ≡ (n + e.call.number) % 2 ^ 64) × SumsFrom (n + e.call.number) es
