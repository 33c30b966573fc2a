-- What the counter has counted.
use Rattle.std.specs.Prelude.{◌≡◌, ◌⊎◌, ℕ, ◌+◌, ◌%◌, ◌<◌, Bool, true, false, List, [], ◌∷◌}
use Rattle.plain_values.specs.declared.entry.Entry.{Entry}
use Rattle.desk_machines.specs.declared.counter.Ask.{Ask}
use Rattle.desk_machines.specs.declared.counter.Ask.TheVariants.{Add, Look}
use Rattle.desk_machines.specs.declared.counter.Answer.{Answer}
use Rattle.desk_machines.specs.declared.counter.Answer.TheVariants.{Sum, NoRoom}

-- what a call adds
abbrev pub part : Ask → ℕ
part (Add n) = n
part Look = 0

-- the sum of the numbers of a history
abbrev pub added : List (Entry Ask Answer) → ℕ
added [] = 0
added (e ∷ es) = part e.call + added es

-- each reply is the sum so far modulo q, where the sum before is n
abbrev pub CountsFrom : ℕ → ℕ → List (Entry Ask Answer) → Type 0
CountsFrom q n [] = Unit {0}
CountsFrom q n (e ∷ es) =
    (e.reply ≡ Sum ((n + part e.call) % q)) × CountsFrom q (n + part e.call) es

-- a sum that came about by this history
abbrev pub IsSum : ℕ → ℕ → List (Entry Ask Answer) → Type 0
IsSum q sum h = (sum ≡ added h % q) × CountsFrom q 0 h × (0 < q)

-- the entry of this call and reply is kept: an Add alone, where it has a sum
abbrev pub stays : Ask → Answer → Bool
stays (Add n) (Sum s) = true
stays (Add n) NoRoom = false
stays Look reply = false

-- the reply says want of room
abbrev pub is_short : Answer → Bool
is_short (Sum s) = false
is_short NoRoom = true

-- a Look alone may be answered NoRoom
abbrev pub MayBeShort : Ask → Type 0
MayBeShort (Add n) = ⊥
MayBeShort Look = Unit {0}

-- the reply, and the sum after it
abbrev pub IsTurn : ℕ → ℕ → Ask → Answer → ℕ → Type 0
IsTurn q sum (Add n) reply sum' = (reply ≡ Sum ((sum + n) % q)) × (sum' ≡ (sum + n) % q)
IsTurn q sum Look reply sum' = ((reply ≡ Sum sum) ⊎ (reply ≡ NoRoom)) × (sum' ≡ sum)

-- the reply after a history: the sum so far with what the call adds, modulo q
abbrev pub sum_so_far : ℕ → List (Entry Ask Answer) → Ask → Answer
sum_so_far q h c = Sum ((added h + part c) % q)
