-- A law of the counter.
use Rattle.std.proofs.Common.{◌≡◌, true, false, refl}
use Rattle.desk_machines.specs.declared.counter.Ask.{Ask}
use Rattle.desk_machines.specs.declared.counter.Ask.TheVariants.{Add, Look}
use Rattle.desk_machines.specs.declared.counter.Answer.{Answer}
use Rattle.desk_machines.specs.declared.counter.Answer.TheVariants.{Sum, NoRoom}
use Rattle.desk_machines.specs.CounterSums.{stays, is_short}

-- a short reply is not kept
pub short_goes : (c : Ask) (r : Answer) → is_short r ≡ true → stays c r ≡ false
short_goes (Add n) (Sum s) e = absurd (cc)
short_goes (Add n) NoRoom e = refl
short_goes Look r e = refl
