-- What an auditor knows of the lines so far.
use Rattle.std.specs.Prelude.{◌≡◌, ℕ, List, [], ◌∷◌, length, reverse, Option, Some, None}
use Rattle.run_plan.specs.declared.plan.Plan.{Plan}
use Rattle.run_plan.specs.Sound.{Sound}
use Rattle.exec_journal.specs.Entry.{Entry}
use Rattle.exec_journal.specs.Paired.{Paired}
use Rattle.exec_journal.specs.Race.{Race}
use Rattle.journal_replay.specs.Legality.{Rulebook, Standing}
use Rattle.journal_replay.specs.Bounds.{AreBounds}
use Rattle.journal_replay.specs.Spelled.{Spells, bad_line}
use Rattle.journal_replay.specs.Verdicts.{HasFault, IsBadPlan}
use Rattle.journal_replay.specs.declared.auditor.Found.{Found}
use Rattle.journal_replay.specs.declared.auditor.Going.{Going}
use Rattle.journal_replay.specs.declared.auditor.Found.TheVariants as found
use Rattle.journal_replay.specs.declared.replayed.Begun.{Begun}
use Rattle.journal_replay.specs.declared.replayed.Begun.TheVariants as begun

-- some line is bad, and this is the first
pub record IsBad {B : Type 0} (spelled : List ℕ → Option B) (lines : List (List ℕ)) (k : ℕ)
    : Type 0 where
  pub top : List ℕ
  pub rest : List (List ℕ)
  pub lines_are : lines ≡ top ∷ rest
  pub bad : bad_line spelled lines ≡ Some k

-- the lines spell a sound basis and a journal that is legal so far, and the core stands for it
pub record IsLegalSoFar {B C : Type 0} (rules : Rulebook B) (stands : Standing B C)
    (lines : List (List ℕ)) (g : Going C) : Type 0 where
  pub basis : B
  pub journal : List Entry
  pub spelled : Spells rules.spelled lines basis journal
  pub sound : rules.sound basis
  pub stood : stands basis g.core (reverse journal)
  pub legal : rules.makes basis (reverse journal)
  pub race : Race (reverse journal)
  pub paired : Paired (rules.plan basis) (reverse journal)
  pub plan_is : g.plan ≡ rules.plan basis
  pub bounds_are : AreBounds g.bounds (rules.lanes basis) g.plan
  pub entries_are : g.entries ≡ length journal

abbrev pub Knows : {B C : Type 0} → Rulebook B → Standing B C → Found C → List (List ℕ) → Type 0
Knows rules stands found.Nothing lines = lines ≡ []
Knows rules stands (found.Bad k) lines = IsBad rules.spelled lines k
Knows rules stands found.Unsound lines = IsBadPlan rules lines
Knows rules stands (found.Wrong i beyond) lines = HasFault rules lines i beyond
Knows rules stands (found.Going g) lines = IsLegalSoFar rules stands lines g

-- ---- what a core is begun with

-- the line spells this basis, which is sound; the plan and the lanes are its, and the core has not
-- been called yet
pub record IsBegun {B C : Type 0} (rules : Rulebook B) (stands : Standing B C) (line : List ℕ)
    (core : C) (plan : Plan) (lanes : ℕ) : Type 0 where
  pub basis : B
  pub spelled : rules.spelled line ≡ Some basis
  pub sound : rules.sound basis
  pub plan_sound : Sound plan
  pub plan_is : plan ≡ rules.plan basis
  pub lanes_are : lanes ≡ rules.lanes basis
  pub stood : stands basis core []

-- the line spells a basis that isn't sound
pub record SpellsUnsound {B : Type 0} (rules : Rulebook B) (line : List ℕ) : Type 0 where
  pub basis : B
  pub spelled : rules.spelled line ≡ Some basis
  pub unsound : rules.sound basis → ⊥

abbrev pub Begins : {B C : Type 0} → Rulebook B → Standing B C → List ℕ → Begun C → Type 0
Begins rules stands line begun.Misread = rules.spelled line ≡ None
Begins rules stands line begun.Unsound = SpellsUnsound rules line
Begins rules stands line (begun.Going core plan lanes) =
    IsBegun rules stands line core plan lanes
