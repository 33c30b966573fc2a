-- What a mailbox has after a history, and what it answers then.
use Rattle.std.specs.Prelude.{◌≡◌, ◌⊎◌, ℕ, ◌+◌, ◌^◌, ◌==◌, ◌&&◌, Bool, true, false, cond, List, [], ◌∷◌}
use Rattle.std.specs.Prelude.{◌++◌, length, Option, Some, None, ltb}
use Rattle.std.specs.Global.{Vec}
use Rattle.std.specs.List.{fold}
use Rattle.plain_values.specs.declared.entry.Entry.{Entry}
use Rattle.message_box.specs.declared.mailbox.Stop.{Stop}
use Rattle.message_box.specs.declared.mailbox.Ask.{Ask}
use Rattle.message_box.specs.declared.mailbox.Ask.TheVariants as ask
use Rattle.message_box.specs.declared.mailbox.Answer.{Answer}
use Rattle.message_box.specs.declared.mailbox.Answer.TheVariants as answer
use Rattle.message_box.specs.declared.mailbox.Mailbox.{Mailbox}

-- the numbers of the two lanes
abbrev pub reader : ℕ
reader = 0

abbrev pub taker : ℕ
taker = 1

-- as long as fewer messages wait there is room for more
abbrev pub ahead : ℕ
ahead = 4096

-- what was taken out, what waits, how the reader has stopped, and whether the taker has left
pub record State (X : Type 0) : Type 0 where
  pub taken : List X
  pub waiting : List X
  pub stop : Option Stop
  pub left : Bool

abbrev pub is_kept : Answer → Bool
is_kept answer.Done = true
is_kept answer.Open = false
is_kept answer.Idle = false
is_kept (answer.Stopped stop) = false
is_kept answer.Gone = false
is_kept answer.NoRoom = false

-- Whom the last call concerns, lanes being the bits of a number: what one lane changes is news for the
-- other, and nothing else is.
abbrev pub named_by : ℕ → Answer → ℕ
named_by lane answer.Done = cond (lane == reader) (2 ^ taker) (2 ^ reader)
named_by lane answer.Open = 0
named_by lane answer.Idle = 0
named_by lane (answer.Stopped stop) = 0
named_by lane answer.Gone = 0
named_by lane answer.NoRoom = 0

abbrev pub is_short : Answer → Bool
is_short answer.Done = false
is_short answer.Open = false
is_short answer.Idle = false
is_short (answer.Stopped stop) = false
is_short answer.Gone = false
is_short answer.NoRoom = true

abbrev pub not_stopped : Option Stop → Bool
not_stopped None = true
not_stopped (Some stop) = false

-- what is answered to a Take
abbrev pub taken_from : {X : Type 0} → List X → Option Stop → Answer
taken_from (x ∷ xs) stop = answer.Done
taken_from [] None = answer.Idle
taken_from [] (Some stop) = answer.Stopped stop

module _ {X : Type 0} where
  -- all that was put in
  abbrev pub put_in : State X → List X
  put_in s = s.taken ++ s.waiting

  -- whether this lane may still put in
  abbrev pub reads : State X → ℕ → Bool
  reads s lane = (lane == reader) && not_stopped s.stop

  -- what is answered while the taker hasn't left
  abbrev pub open_answer : State X → ℕ → Ask X → Answer
  open_answer s lane (ask.Put batch) = cond (reads s lane) answer.Done answer.Gone
  open_answer s lane (ask.Stop stop) = cond (reads s lane) answer.Done answer.Gone
  open_answer s lane ask.Take = cond (lane == taker) (taken_from s.waiting s.stop) answer.Gone
  open_answer s lane ask.Leave = cond (lane == taker) answer.Done answer.Gone
  open_answer s lane ask.Room = cond (ltb (length s.waiting) ahead) answer.Open answer.Idle
  open_answer s lane ask.Left = answer.Idle

  abbrev pub answer_to : State X → ℕ → Ask X → Answer
  answer_to s lane call = cond s.left answer.Gone (open_answer s lane call)

  -- the state after a call that was answered Done
  abbrev pub moved : State X → Ask X → State X
  moved s (ask.Put batch) = record {
    taken = s.taken;
    waiting = s.waiting ++ batch.value.items;
    stop = s.stop;
    left = s.left;
  }
  moved s (ask.Stop stop) = record {
    taken = s.taken;
    waiting = s.waiting;
    stop = Some stop;
    left = s.left;
  }
  moved s ask.Take = record { taken = put_in s; waiting = []; stop = s.stop; left = s.left }
  moved s ask.Leave = record {
    taken = s.taken;
    waiting = s.waiting;
    stop = s.stop;
    left = true;
  }
  moved s ask.Room = s
  moved s ask.Left = s

  -- the state after an entry
  abbrev pub state_then : State X → Entry (Ask X) Answer → State X
  state_then s e = cond (is_kept (answer_to s e.lane e.call)) (moved s e.call) s

  abbrev pub first : State X
  first = record { taken = []; waiting = []; stop = None; left = false }

  -- the state after a history
  abbrev pub state_of : List (Entry (Ask X) Answer) → State X
  state_of h = fold state_then first h

  -- the mailbox is in this state
  abbrev pub Matches : Mailbox X → State X → Type 0
  Matches m s = (m.waiting.items ≡ s.waiting) × (m.stop ≡ s.stop) × (m.left ≡ s.left)

  -- the messages that are put in go in with the call
  abbrev pub GoesIn : Ask X → Option (Vec X) → Type 0
  GoesIn (ask.Put batch) put = put ≡ Some batch.value
  GoesIn (ask.Stop stop) put = Unit {0}
  GoesIn ask.Take put = Unit {0}
  GoesIn ask.Leave put = Unit {0}
  GoesIn ask.Room put = Unit {0}
  GoesIn ask.Left put = Unit {0}

  -- these messages come out with a Take that is Done
  abbrev pub Gives : List X → Answer → Option (Vec X) → Type 0
  Gives messages answer.Done (Some good) = good.items ≡ messages
  Gives messages answer.Done None = ⊥
  Gives messages answer.Open good = Unit {0}
  Gives messages answer.Idle good = Unit {0}
  Gives messages (answer.Stopped stop) good = Unit {0}
  Gives messages answer.Gone good = Unit {0}
  Gives messages answer.NoRoom good = Unit {0}

  abbrev pub ComesOut : State X → Ask X → Answer → Option (Vec X) → Type 0
  ComesOut s ask.Take reply good = Gives s.waiting reply good
  ComesOut s (ask.Put batch) reply good = Unit {0}
  ComesOut s (ask.Stop stop) reply good = Unit {0}
  ComesOut s ask.Leave reply good = Unit {0}
  ComesOut s ask.Room reply good = Unit {0}
  ComesOut s ask.Left reply good = Unit {0}

  -- they were put behind those that were there, or there was no memory
  abbrev pub IsAdded : List X → List X → Answer → List X → Type 0
  IsAdded was more answer.Done now = now ≡ was ++ more
  IsAdded was more answer.NoRoom now = now ≡ was
  IsAdded was more answer.Open now = ⊥
  IsAdded was more answer.Idle now = ⊥
  IsAdded was more (answer.Stopped stop) now = ⊥
  IsAdded was more answer.Gone now = ⊥

  -- the calls that take no memory: all but to put in and to take out
  abbrev pub IsPaid : Ask X → Type 0
  IsPaid (ask.Put batch) = ⊥
  IsPaid (ask.Stop stop) = Unit {0}
  IsPaid ask.Take = ⊥
  IsPaid ask.Leave = Unit {0}
  IsPaid ask.Room = Unit {0}
  IsPaid ask.Left = Unit {0}

  -- there may be no memory for what is put in
  abbrev pub MayBeShort : Ask X → Type 0
  MayBeShort (ask.Put batch) = Unit {0}
  MayBeShort (ask.Stop stop) = ⊥
  MayBeShort ask.Take = ⊥
  MayBeShort ask.Leave = ⊥
  MayBeShort ask.Room = ⊥
  MayBeShort ask.Left = ⊥

  -- the questions that change nothing
  abbrev pub IsLook : Ask X → Type 0
  IsLook (ask.Put batch) = ⊥
  IsLook (ask.Stop stop) = ⊥
  IsLook ask.Take = ⊥
  IsLook ask.Leave = ⊥
  IsLook ask.Room = Unit {0}
  IsLook ask.Left = Unit {0}

  -- what the lanes owe: to say how the reader has stopped, and that the taker has left
  abbrev pub owed_in : State X → ℕ
  owed_in s = cond (not_stopped s.stop) 1 0 + cond s.left 0 1

  -- The reply is that of the state in which the mailbox was, which has moved where it is Done; or
  -- there was no memory, and it has not moved.
  abbrev pub TurnsSo : Mailbox X → ℕ → Ask X → Option (Vec X) → Answer → Option (Vec X) → Mailbox X
      → Type 0
  TurnsSo m lane call put reply good m' = (s : State X) → Matches m s → GoesIn call put
      → ((reply ≡ answer_to s lane call) ⊎ ((is_short reply ≡ true) × MayBeShort call))
      × Matches m' (cond (is_kept reply) (moved s call) s) × ComesOut s call reply good
