-- What a lane does with a token that it borrowed.
use Rattle.std.specs.Prelude.{◌+◌, ◌%◌, ◌^◌, Option, Some, None}
use Rattle.desk_machines.specs.declared.locker.Ask.{Ask}
use Rattle.desk_machines.specs.declared.locker.Ask.TheVariants.{Return}
use Rattle.desk_machines.specs.declared.locker.Answer.{Answer}
use Rattle.desk_machines.specs.declared.locker.Answer.TheVariants.{Left, Busy, Taken, Nothing, Lent, Returned}
use Rattle.desk_machines.specs.declared.locker.Token.{Token}

-- the token with its number raised by one, modulo 2^64
abbrev pub stamped : Token → Token
stamped t = record { number = (t.number + 1) % 2 ^ 64 }

-- what follows an answer: a token that was lent is put back with its number raised, and else
-- nothing follows
abbrev pub answer_to : Answer → Option Token → Option (Ask × Option Token)
answer_to Lent None = None
answer_to Lent (Some t) = Some (Return, Some (stamped t))
answer_to Left good = None
answer_to Busy good = None
answer_to Taken good = None
answer_to Nothing good = None
answer_to Returned good = None
