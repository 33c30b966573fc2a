-- What stands next in the input.
use Rattle.std.specs.Prelude.{ℕ, List, [], ◌∷◌, ◌++◌, true, Result, Ok, Err}
use Rattle.delimited_framing.specs.Front.{Form}
use Rattle.delimited_framing.specs.Splitter.{Held}
use Rattle.message_service.specs.declared.finish.Finish.{Finish}
use Rattle.message_service.specs.declared.finish.Finish.TheVariants as finish
use Rattle.message_service.specs.Stream.{Heard, HeardAll, IsWhole, IsBroken}
use Rattle.message_service.specs.Serves.{ReadsBy}
use Rattle.work_lanes.specs.declared.reading.Come.{Come}
use Rattle.work_lanes.specs.declared.reading.Come.TheVariants as come

module _ (form : Form) {X : Type 0} (Spells : List ℕ → X → Type 0) where
  -- one request more was given; or all were, and less than one is left, or what spells none
  abbrev pub GivesNext : Come X → List ℕ → List X → Held → Type 0
  GivesNext (come.Request m) fed heard s = Heard form Spells fed (heard ++ m ∷ []) s
  GivesNext come.NotYet fed heard s = Heard form Spells fed heard s × IsWhole form Spells fed heard
  GivesNext come.Broken fed heard s = IsBroken form Spells fed heard

  -- a piece more was heard: it goes on, and all that was fed is heard, or no more is read
  abbrev pub HandsOn : Result (Unit {0}) Finish → List ℕ → List X → Held → Type 0
  HandsOn (Ok done) fed heard s = HeardAll form Spells true fed heard s
  HandsOn (Err f) fed heard s = ReadsBy form Spells f fed heard

-- no more is read for lack of memory, or for what spells no request
abbrev pub BreaksOff : Finish → Type 0
BreaksOff finish.NoMemory = Unit {0}
BreaksOff finish.BadInput = Unit {0}
BreaksOff finish.AtEnd = ⊥
BreaksOff finish.InputFault = ⊥
BreaksOff finish.OutputFault = ⊥
BreaksOff finish.TooLong = ⊥
