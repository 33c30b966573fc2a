-- What the steps of such a program do.
use Rattle.std.specs.Prelude.{◌≡◌, ℕ, List, ◌∷◌, ◌++◌, true, Option, Some, None, Result, Ok}
use Rattle.std.specs.Prelude.{Err}
use Rattle.plain_values.specs.declared.no_memory.NoMemory.{NoMemory}
use Rattle.outside.specs.Told.{SinkTold, ShopTold}
use Rattle.outside.specs.declared.shop.ShopCall.{ShopCall}
use Rattle.delimited_framing.specs.Front.{Form}
use Rattle.delimited_framing.specs.Splitter.{Held}
use Rattle.message_service.specs.declared.finish.Finish.{Finish}
use Rattle.message_service.specs.declared.finish.Finish.TheVariants as finish
use Rattle.message_service.specs.Calls.{Made}
use Rattle.message_service.specs.Stream.{HeardAll}
use Rattle.message_service.specs.Turns.{Turn, said, IsBrokenOff}
use Rattle.message_service.specs.Ends.{PutAll, PutFront, end_of}
use Rattle.message_service.specs.Serves.{ReadsBy, Handled}

-- a reply was put, if there is one, or putting failed
abbrev pub Puts : Option Finish → Option (List ℕ) → SinkTold → SinkTold → Type 0
Puts None reply old new = PutAll (said reply) old new
Puts (Some finish.OutputFault) reply old new = PutFront (said reply) old new
Puts (Some finish.AtEnd) reply old new = ⊥
Puts (Some finish.NoMemory) reply old new = ⊥
Puts (Some finish.BadInput) reply old new = ⊥
Puts (Some finish.InputFault) reply old new = ⊥
Puts (Some finish.TooLong) reply old new = ⊥

-- memory ran out, or putting failed, in the middle of what was to be done
abbrev pub CutsOff : Finish → Type 0
CutsOff finish.NoMemory = Unit {0}
CutsOff finish.OutputFault = Unit {0}
CutsOff finish.AtEnd = ⊥
CutsOff finish.BadInput = ⊥
CutsOff finish.InputFault = ⊥
CutsOff finish.TooLong = ⊥

-- or what came spells no message
abbrev pub StopsReading : Finish → Type 0
StopsReading finish.NoMemory = Unit {0}
StopsReading finish.OutputFault = Unit {0}
StopsReading finish.BadInput = Unit {0}
StopsReading finish.AtEnd = ⊥
StopsReading finish.InputFault = ⊥
StopsReading finish.TooLong = ⊥

module _ {M : Type 0}
    (Answers : M → List M → List ShopCall → Result (Option (List ℕ)) NoMemory → Type 0) where
  -- one message was dealt with so, before these others, and its reply was put, or putting failed
  pub record OneTurn (how : Option Finish) (m : M) (behind : List M) (out out' : SinkTold)
      (shop shop' : ShopTold) : Type 0 where
    pub turn : Turn
    pub is : Answers m behind turn.calls (Ok turn.reply)
    pub put : Puts how turn.reply out out'
    pub made : Made turn.calls shop shop'

  -- memory ran out for it, and nothing was put
  pub record OneBegun (m : M) (behind : List M) (out out' : SinkTold) (shop shop' : ShopTold)
      : Type 0 where
    pub begun : List ShopCall
    pub is : IsBrokenOff Answers (m ∷ behind) begun
    pub still : out' ≡ out
    pub made : Made begun shop shop'

  abbrev pub Deals : Option Finish → M → List M → SinkTold → SinkTold → ShopTold → ShopTold
      → Type 0
  Deals None m behind out out' shop shop' = OneTurn None m behind out out' shop shop'
  Deals (Some finish.OutputFault) m behind out out' shop shop' =
      OneTurn (Some finish.OutputFault) m behind out out' shop shop'
  Deals (Some finish.NoMemory) m behind out out' shop shop' = OneBegun m behind out out' shop shop'
  Deals (Some finish.AtEnd) m behind out out' shop shop' = ⊥
  Deals (Some finish.BadInput) m behind out out' shop shop' = ⊥
  Deals (Some finish.InputFault) m behind out out' shop shop' = ⊥
  Deals (Some finish.TooLong) m behind out out' shop shop' = ⊥

module _ (form : Form) {M : Type 0} (Spells : List ℕ → M → Type 0) where
  -- after a step: it goes on, and all that was fed is heard, or it ends
  abbrev pub StandsBy : Result (Unit {0}) Finish → List ℕ → List M → Held → Type 0
  StandsBy (Ok done) fed messages s = HeardAll form Spells true fed messages s
  StandsBy (Err f) fed messages s = ReadsBy form Spells f fed messages

module _ (form : Form) {M : Type 0} (Spells : List ℕ → M → Type 0)
    (Answers : M → List M → List ShopCall → Result (Option (List ℕ)) NoMemory → Type 0) where
  -- more messages came, and these were answered before any more were read
  pub record Round (result : Result (Unit {0}) Finish) (fed : List ℕ) (messages : List M)
      (s : Held) (out out' : SinkTold) (shop shop' : ShopTold) : Type 0 where
    pub more : List M
    pub stands : StandsBy form Spells result fed (messages ++ more) s
    pub handled : Handled Answers (end_of result) more out out' shop shop'
