-- What a reader has read by its end.
use Rattle.std.specs.Prelude.{◌≡◌, ℕ, List, true, None, Result, Ok, Err}
use Rattle.outside.specs.Lists.{Adds}
use Rattle.outside.specs.Told.{TapTold}
use Rattle.delimited_framing.specs.Front.{Form}
use Rattle.delimited_framing.specs.Splitter.{Held}
use Rattle.message_service.specs.declared.finish.Finish.{Finish}
use Rattle.message_service.specs.declared.finish.Finish.TheVariants as finish
use Rattle.message_service.specs.Stream.{Begins, HeardAll}
use Rattle.message_service.specs.Ends.{CausedBy}
use Rattle.message_service.specs.Serves.{ReadsBy}
use Rattle.message_service.specs.Steps.{StopsReading}
use Rattle.message_box.specs.declared.mailbox.Stop.{Stop}
use Rattle.message_box.specs.declared.mailbox.Stop.TheVariants as stop
use Rattle.message_box.specs.Sides.{SaysStop}
use Rattle.message_box.specs.States.{State, put_in}
use Rattle.read_ahead.specs.declared.reading.Pause.{Pause}
use Rattle.read_ahead.specs.declared.reading.Pause.TheVariants as pause

-- how a program ends whose reader has stopped so
abbrev pub finish_of : Stop → Finish
finish_of stop.AtEnd = finish.AtEnd
finish_of stop.NoMemory = finish.NoMemory
finish_of stop.BadInput = finish.BadInput
finish_of stop.InputFault = finish.InputFault
finish_of stop.TooLong = finish.TooLong

-- no more is read for what a piece of the input said, for lack of memory, or as nobody takes it
abbrev pub BreaksOff : Pause → Type 0
BreaksOff (pause.Stopped how) = StopsReading (finish_of how)
BreaksOff pause.Gone = Unit {0}

-- why no more is read, so far as that isn't said by what was read
abbrev pub StoppedBy : Pause → List ℕ → TapTold → TapTold → Type 0
StoppedBy (pause.Stopped how) bytes old new = CausedBy (finish_of how) bytes old new
StoppedBy pause.Gone bytes old new = Unit {0}

-- what the reader said of its end, if the taker was still there
abbrev pub SaidBy : {M : Type 0} → Pause → State M → Type 0
SaidBy (pause.Stopped how) s = SaysStop how s
SaidBy pause.Gone s = s.stop ≡ None

module _ (form : Form) {M : Type 0} (Spells : List ℕ → M → Type 0) where
  -- what the bytes that were read spell, by why no more is read
  abbrev pub SpellBy : Pause → List ℕ → List M → Type 0
  SpellBy (pause.Stopped how) bytes messages = ReadsBy form Spells (finish_of how) bytes messages
  SpellBy pause.Gone bytes messages = Begins form Spells bytes messages

  -- these messages were read
  pub record HasRead (why : Pause) (messages : List M) (old new : TapTold) : Type 0 where
    pub bytes : List ℕ
    pub taken : Adds bytes old.taken new.taken
    pub spell : SpellBy why bytes messages
    pub caused : StoppedBy why bytes old new

  -- a piece more was heard: it goes on, and all that was fed is heard, or no more is read
  abbrev pub HandsOn : Result (Unit {0}) Pause → List ℕ → List M → Held → Type 0
  HandsOn (Ok done) fed messages s = HeardAll form Spells true fed messages s
  HandsOn (Err why) fed messages s = SpellBy why fed messages

  -- The reader has ended so, and has seen that the taker has left. All that it read was put in.
  pub record ReaderLeaves (why : Pause) (s : State M) (old new : TapTold) : Type 0 where
    pub left : s.left ≡ true
    pub said : SaidBy why s
    pub read : HasRead why (put_in s) old new
