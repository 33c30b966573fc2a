-- Where the token is, after a history.
use Rattle.std.specs.Prelude.{◌≡◌, ℕ, ◌^◌, ◌-◌, ◌==◌, Bool, true, false, cond, List, Option, None, IsSome, fold}
use Rattle.plain_values.specs.declared.entry.Entry.{Entry}
use Rattle.desk_machines.specs.declared.locker.Ask.{Ask}
use Rattle.desk_machines.specs.declared.locker.Ask.TheVariants.{Leave, Take, Borrow, Return}
use Rattle.desk_machines.specs.declared.locker.Answer.{Answer}
use Rattle.desk_machines.specs.declared.locker.Answer.TheVariants.{Left, Busy, Taken, Nothing, Lent, Returned}
use Rattle.desk_machines.specs.declared.locker.Spot.{Spot}
use Rattle.desk_machines.specs.declared.locker.Spot.TheVariants.{Empty, Here, Away}

-- the answer to a lane's call, where the token is at this spot
abbrev pub reply_of : Spot → ℕ → Ask → Answer
reply_of Empty lane Leave = Left
reply_of (Here owner) lane Leave = Busy
reply_of (Away owner) lane Leave = Busy
reply_of Empty lane Take = Nothing
reply_of (Here owner) lane Take = cond (lane == owner) Taken Nothing
reply_of (Away owner) lane Take = Nothing
reply_of Empty lane Borrow = Nothing
reply_of (Here owner) lane Borrow = cond (lane == owner) Lent Nothing
reply_of (Away owner) lane Borrow = Nothing
reply_of Empty lane Return = Busy
reply_of (Here owner) lane Return = Busy
reply_of (Away owner) lane Return = cond (lane == owner) Returned Busy

-- the spot after a reply
abbrev pub spot_then : Spot → ℕ → Answer → Spot
spot_then Empty lane Left = Here lane
spot_then (Here owner) lane Left = Here owner
spot_then (Away owner) lane Left = Away owner
spot_then spot lane Busy = spot
spot_then Empty lane Taken = Empty
spot_then (Here owner) lane Taken = cond (lane == owner) Empty (Here owner)
spot_then (Away owner) lane Taken = Away owner
spot_then spot lane Nothing = spot
spot_then Empty lane Lent = Empty
spot_then (Here owner) lane Lent = cond (lane == owner) (Away owner) (Here owner)
spot_then (Away owner) lane Lent = Away owner
spot_then Empty lane Returned = Empty
spot_then (Here owner) lane Returned = Here owner
spot_then (Away owner) lane Returned = cond (lane == owner) (Here owner) (Away owner)

-- the spot after an entry
abbrev pub spot_after : Spot → Entry Ask Answer → Spot
spot_after spot e = spot_then spot e.lane e.reply

-- the spot after a history, where the shelf was empty at first
abbrev pub spot_of : List (Entry Ask Answer) → Spot
spot_of h = fold spot_after Empty h

-- the answer changes the spot, and its entry is kept
abbrev pub changes : Answer → Bool
changes Left = true
changes Busy = false
changes Taken = true
changes Nothing = false
changes Lent = true
changes Returned = true

-- the lanes that an answer stirs: all, once the shelf is empty
abbrev pub stirred_by : Answer → ℕ
stirred_by Taken = 2 ^ 128 - 1
stirred_by Left = 0
stirred_by Busy = 0
stirred_by Nothing = 0
stirred_by Lent = 0
stirred_by Returned = 0

-- a token goes in with Leave and with Return
abbrev pub GoesIn : {G : Type 0} → Ask → Option G → Type 0
GoesIn Leave put = IsSome put
GoesIn Take put = put ≡ None
GoesIn Borrow put = put ≡ None
GoesIn Return put = IsSome put

-- it comes out where it was not taken in, is taken or is lent
abbrev pub ComesOut : {G : Type 0} → Answer → Option G → Type 0
ComesOut Left good = good ≡ None
ComesOut Busy good = IsSome good
ComesOut Taken good = IsSome good
ComesOut Nothing good = good ≡ None
ComesOut Lent good = IsSome good
ComesOut Returned good = good ≡ None

-- how many paid entries are still to come: a Take, and a Return before it
abbrev pub owes_by : Spot → ℕ
owes_by Empty = 0
owes_by (Here owner) = 1
owes_by (Away owner) = 2

-- a Take of the lane whose token lies there, and a Return of the lane that borrowed it
abbrev pub IsPaid : Spot → ℕ → Ask → Type 0
IsPaid spot lane Leave = ⊥
IsPaid spot lane Take = spot ≡ Here lane
IsPaid spot lane Borrow = ⊥
IsPaid spot lane Return = spot ≡ Away lane

-- a token lies on the shelf exactly where it is somebody's and was not borrowed
abbrev pub Fits : {G : Type 0} → Spot → Option G → Type 0
Fits Empty shelf = shelf ≡ None
Fits (Here owner) shelf = IsSome shelf
Fits (Away owner) shelf = shelf ≡ None
