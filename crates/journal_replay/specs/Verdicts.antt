-- What each verdict says of the lines of a text. What its first line spells, and which journals are
-- legal, is the core's: those that its rules make.
use Rattle.std.specs.Prelude.{◌≡◌, ℕ, ◌<◌, ◌≤◌, Bool, true, false, List, ◌∷◌, length, reverse, slice_get, take, Some}
use Rattle.exec_journal.specs.Entry.{Entry}
use Rattle.exec_journal.specs.Paired.{Paired}
use Rattle.exec_journal.specs.Race.{Race}
use Rattle.journal_text.specs.Lines.{lines_of}
use Rattle.journal_replay.specs.Legality.{Legality, Rulebook, of_plans}
use Rattle.journal_replay.specs.Beyond.{entry_beyond_in}
use Rattle.journal_replay.specs.Spelled.{Spells, bad_line}
use Rattle.journal_replay.specs.declared.verdict.Verdict.{Verdict}
use Rattle.journal_replay.specs.declared.verdict.Verdict.TheVariants as verdict

abbrev pub limit : ℕ
limit = 268435456

-- the entries before this one, whose newest stands first, are legal, and with it they aren't
pub record FirstIllegal {B : Type 0} (makes : B → List Entry → Type 0) (b : B) (j : List Entry)
    (i : ℕ) (e : Entry) : Type 0 where
  pub there : slice_get j i ≡ Some e
  pub before : makes b (reverse (take i j))
  pub with_it : makes b (e ∷ reverse (take i j)) → ⊥

-- the lines spell a legal journal of a sound basis, of which so much is said
pub record IsYes {B : Type 0} (rules : Rulebook B) (lines : List (List ℕ)) (actions entries : ℕ)
    : Type 0 where
  pub basis : B
  pub journal : List Entry
  pub spelled : Spells rules.spelled lines basis journal
  pub sound : rules.sound basis
  pub legal : rules.makes basis (reverse journal)
  pub race : Race (reverse journal)
  pub paired : Paired (rules.plan basis) (reverse journal)
  pub actions_are : actions ≡ length (rules.plan basis).actions
  pub entries_are : entries ≡ length journal

-- they spell a basis that isn't sound, and entries
pub record IsBadPlan {B : Type 0} (rules : Rulebook B) (lines : List (List ℕ)) : Type 0 where
  pub basis : B
  pub journal : List Entry
  pub spelled : Spells rules.spelled lines basis journal
  pub unsound : rules.sound basis → ⊥

-- they spell a sound basis and a journal, of which this entry is the first that the rules don't
-- make
pub record HasFault {B : Type 0} (rules : Rulebook B) (lines : List (List ℕ)) (i : ℕ)
    (beyond : Bool) : Type 0 where
  pub basis : B
  pub journal : List Entry
  pub entry : Entry
  pub spelled : Spells rules.spelled lines basis journal
  pub sound : rules.sound basis
  pub first : FirstIllegal rules.makes basis journal i entry
  pub names : entry_beyond_in (rules.lanes basis) (rules.plan basis) entry ≡ beyond

-- what a verdict says of the lines
abbrev pub Says : {B : Type 0} → Rulebook B → List (List ℕ) → Verdict → Type 0
Says rules lines (verdict.Yes a n) = IsYes rules lines a n
Says rules lines verdict.TooLong = ⊥
Says rules lines (verdict.BadLine k) = bad_line rules.spelled lines ≡ Some k
Says rules lines verdict.BadPlan = IsBadPlan rules lines
Says rules lines (verdict.OutOfPlan i) = HasFault rules lines i true
Says rules lines (verdict.Illegal i) = HasFault rules lines i false

-- what it says of the bytes
abbrev pub JudgesBy : {B : Type 0} → Rulebook B → List ℕ → Verdict → Type 0
JudgesBy rules bytes verdict.TooLong = limit < length bytes
JudgesBy rules bytes v = (length bytes ≤ limit) × Says rules (lines_of bytes) v

-- on the plan's own berths
abbrev pub Judges : Legality → List ℕ → Verdict → Type 0
Judges makes bytes v = JudgesBy (of_plans makes) bytes v
