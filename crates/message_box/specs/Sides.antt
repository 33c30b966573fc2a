-- What the two lanes of a mailbox know of it, and how their calls change that.
use Rattle.std.specs.Prelude.{◌≡◌, ◌⊎◌, true, List, [], ◌++◌, Option, Some, None}
use Rattle.std.specs.Prelude.{Result, Ok, Err}
use Rattle.plain_values.specs.declared.no_memory.NoMemory.{NoMemory}
use Rattle.std.specs.Global.{Vec}
use Rattle.seat_desk.specs.declared.machine.Machine.{Ghosts}
use Rattle.seat_desk.specs.declared.desk.Pass.{Pass}
use Rattle.seat_desk.specs.Passes.{seen}
use Rattle.message_box.specs.declared.mailbox.Stop.{Stop}
use Rattle.message_box.specs.declared.mailbox.Ask.{Ask}
use Rattle.message_box.specs.declared.mailbox.Answer.{Answer}
use Rattle.message_box.specs.declared.mailbox.Answer.TheVariants as answer
use Rattle.message_box.specs.declared.mailbox.Mailbox.{Mailbox}
use Rattle.message_box.specs.declared.mailbox.Nothing.{Nothing}
use Rattle.message_box.specs.declared.reading.Offered.{Offered}
use Rattle.message_box.specs.declared.reading.Offered.TheVariants as offered
use Rattle.message_box.specs.declared.taking.Took.{Took}
use Rattle.message_box.specs.declared.taking.Took.TheVariants as took
use Rattle.message_box.specs.States.{State, state_of, put_in}

module _ {X : Type 0} {g : Ghosts (Mailbox X) (Ask X) Answer (Vec X) Nothing} where
  -- the state of the mailbox that a lane has seen last
  abbrev pub state_at : Pass (Mailbox X) (Ask X) Answer (Vec X) Nothing g → State X
  state_at p = state_of (seen p)

module _ {X : Type 0} where
  -- what the reader did stands
  abbrev pub ReaderStands : State X → State X → Type 0
  ReaderStands s s' = (put_in s' ≡ put_in s) × (s'.stop ≡ s.stop)

  -- what the taker did stands
  abbrev pub TakerStands : State X → State X → Type 0
  TakerStands s s' = (s'.taken ≡ s.taken) × (s'.left ≡ s.left)

  -- these messages were put in, or nobody takes them any more
  abbrev pub HasPut : List X → Offered → State X → State X → Type 0
  HasPut more offered.Done s s' = (put_in s' ≡ put_in s ++ more) × (s'.stop ≡ s.stop)
  HasPut more offered.Gone s s' = ReaderStands s s' × (s'.left ≡ true)

  -- it was said that the reader has stopped so, or nobody takes any more what it puts in
  abbrev pub SaysStop : Stop → State X → Type 0
  SaysStop stop s = (s.stop ≡ Some stop) ⊎ ((s.stop ≡ None) × (s.left ≡ true))

  abbrev pub HasStopped : Stop → State X → State X → Type 0
  HasStopped stop s s' = (put_in s' ≡ put_in s) × SaysStop stop s'

  -- these messages were taken, which are all that had been put in by then
  abbrev pub HasTaken : List X → State X → State X → Type 0
  HasTaken messages s s' =
      (s'.taken ≡ s.taken ++ messages) × (s'.left ≡ s.left) × (s'.waiting ≡ [])

  -- the reader has stopped so, and all that it put in was taken
  abbrev pub HasAll : Stop → State X → Type 0
  HasAll stop s = (s.stop ≡ Some stop) × (s.waiting ≡ [])

  abbrev pub HasTook : Took X → State X → State X → Type 0
  HasTook (took.Messages messages) s s' = HasTaken messages.items s s'
  HasTook (took.Stopped stop) s s' = TakerStands s s' × HasAll stop s'

  abbrev pub MayHaveTaken : Option (Took X) → State X → State X → Type 0
  MayHaveTaken (Some took) s s' = HasTook took s s'
  MayHaveTaken None s s' = TakerStands s s' × (s'.waiting ≡ [])

  -- what was taken by a reply
  abbrev pub took_by : Answer → Option (Vec X) → Option (Took X)
  took_by answer.Done (Some good) = Some (took.Messages good)
  took_by answer.Done None = None
  took_by (answer.Stopped stop) good = Some (took.Stopped stop)
  took_by answer.Open good = None
  took_by answer.Idle good = None
  took_by answer.Gone good = None
  took_by answer.NoRoom good = None

  -- the taker has left; what it knew of the reader's end is so still
  abbrev pub HasLeft : State X → State X → Type 0
  HasLeft s s' = (s'.taken ≡ s.taken) × (s'.left ≡ true)
      × ((stop : Stop) → HasAll stop s → HasAll stop s')

-- what a reader whose messages were answered so is told
abbrev pub offered_by : Answer → Result Offered NoMemory
offered_by answer.Done = Ok offered.Done
offered_by answer.NoRoom = Err (record {})
offered_by answer.Open = Ok offered.Gone
offered_by answer.Idle = Ok offered.Gone
offered_by (answer.Stopped stop) = Ok offered.Gone
offered_by answer.Gone = Ok offered.Gone
