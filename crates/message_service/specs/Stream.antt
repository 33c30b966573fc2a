-- What bytes say that are frames, each of which spells a message.
use Rattle.std.specs.Prelude.{◌≡◌, ℕ, List, Bool, true, false, Option, Some, None}
use Rattle.wire_fields.specs.Message.{largest, AreSpelled}
use Rattle.delimited_framing.specs.Front.{Front, Whole, Unfinished, Bad, Form}
use Rattle.delimited_framing.specs.Splitter.{Held, StandsFor}

module _ {M : Type 0} (Spells : List ℕ → M → Type 0) where
  abbrev pub SpellsNone : List ℕ → Type 0
  SpellsNone frame = (m : M) → Spells frame m → ⊥

  -- what a frame was read as: the message that it spells, or none where it spells none
  abbrev pub ReadsFrame : List ℕ → Option M → Type 0
  ReadsFrame frame (Some m) = Spells frame m
  ReadsFrame frame None = SpellsNone frame

  -- no message stands at the front: there is a fault, or a frame that spells none
  abbrev pub BrokenAt : Front → Type 0
  BrokenAt (Whole frame after) = SpellsNone frame
  BrokenAt Unfinished = ⊥
  BrokenAt (Bad fault) = Unit {0}

module _ (form : Form) {M : Type 0} (Spells : List ℕ → M → Type 0) where
  -- the bytes are these messages, a frame each, and then the rest
  pub record Reads (bytes : List ℕ) (messages : List M) (rest : List ℕ) : Type 0 where
    pub frames : List (List ℕ)
    pub holds : form.Holds largest bytes frames rest
    pub spelled : AreSpelled Spells frames messages

  -- these messages come first, whatever follows
  abbrev pub Begins : List ℕ → List M → Type 0
  Begins bytes messages = (rest : List ℕ) × Reads bytes messages rest

  -- these are all: less than a frame is left, and no fault
  abbrev pub IsWhole : List ℕ → List M → Type 0
  IsWhole bytes messages =
      (rest : List ℕ) × Reads bytes messages rest × (form.front largest rest ≡ Unfinished)

  -- these come before what spells no message
  abbrev pub IsBroken : List ℕ → List M → Type 0
  IsBroken bytes messages =
      (rest : List ℕ) × Reads bytes messages rest × BrokenAt Spells (form.front largest rest)

  -- a cutter was fed these bytes, without a fault, and its frames spell these messages
  pub record Heard (bytes : List ℕ) (messages : List M) (s : Held) : Type 0 where
    pub frames : List (List ℕ)
    pub stands : StandsFor form bytes frames s
    pub limit : s.limit ≡ largest
    pub no_fault : s.fault ≡ None
    pub spelled : AreSpelled Spells frames messages

  -- these messages are all that it was fed, or what stands behind them spells none
  abbrev pub HeardAll : Bool → List ℕ → List M → Held → Type 0
  HeardAll true bytes messages s = Heard bytes messages s × IsWhole bytes messages
  HeardAll false bytes messages s = IsBroken bytes messages
