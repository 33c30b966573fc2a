-- What a stream of frames says, where each frame spells a message and messages join to answers.
use Rattle.std.specs.Prelude.{◌≡◌, ℕ, List, [], ◌∷◌, ◌++◌, map}
use Rattle.wire_fields.specs.Message.{largest, AreSpelled}
use Rattle.delimited_framing.specs.Front.{Front, Whole, Unfinished, Bad, Form}
use Rattle.exec_journal.specs.declared.call.Answer.{Answer}
use Rattle.answer_reader.specs.declared.reader.Spoken.{Spoken}
use Rattle.answer_reader.specs.declared.reader.Spoken.TheVariants as spoken

module _ {M : Type 0} (Spells : List ℕ → M → Type 0) where
  -- the bytes spell no message
  abbrev pub SpellsNone : List ℕ → Type 0
  SpellsNone bytes = (m : M) → Spells bytes m → ⊥

  -- no message stands at the front: there is a fault, or a frame that spells none
  abbrev pub BrokenAt : Front → Type 0
  BrokenAt (Whole frame after) = SpellsNone frame
  BrokenAt Unfinished = ⊥
  BrokenAt (Bad fault) = Unit {0}

-- frames of a form that spell messages, which join to answers
module _ (form : Form) {M : Type 0} (Spells : List ℕ → M → Type 0)
    (joined : List M → List Answer) where
  -- the bytes are messages that join to these answers, and then the rest
  pub record ReadTo (bytes : List ℕ) (answers : List Answer) (rest : List ℕ) : Type 0 where
    pub frames : List (List ℕ)
    pub messages : List M
    pub holds : form.Holds largest bytes frames rest
    pub spelled : AreSpelled Spells frames messages
    pub joins : joined messages ≡ answers

  -- these answers come first, whatever follows
  abbrev pub BeginsWith : List ℕ → List Answer → Type 0
  BeginsWith bytes answers = (rest : List ℕ) × ReadTo bytes answers rest

  -- these are all: less than a frame is left, and no fault
  abbrev pub IsWhole : List ℕ → List Answer → Type 0
  IsWhole bytes answers =
      (rest : List ℕ) × ReadTo bytes answers rest × (form.front largest rest ≡ Unfinished)

  -- these come before what spells no message
  abbrev pub IsBroken : List ℕ → List Answer → Type 0
  IsBroken bytes answers =
      (rest : List ℕ) × ReadTo bytes answers rest × BrokenAt Spells (form.front largest rest)

-- what one frame says, where each message is an answer
module _ {M : Type 0} (Spells : List ℕ → M → Type 0) (answer_of : M → Answer) where
  abbrev pub Reads : List ℕ → Spoken → Type 0
  Reads frame (spoken.Answer x) = (m : M) × Spells frame m × (x ≡ answer_of m)
  Reads frame spoken.Bad = SpellsNone Spells frame
  Reads frame spoken.More = ⊥
  Reads frame spoken.NotYet = ⊥
