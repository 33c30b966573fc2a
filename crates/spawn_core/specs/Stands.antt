-- When a core stands for a journal, whose newest entry stands first.
use Rattle.std.specs.Prelude.{◌≡◌, ℕ, List}
use Rattle.run_plan.specs.declared.plan.Plan.{Plan}
use Rattle.exec_journal.specs.Entry.{Entry}
use Rattle.journal_laws.specs.Paid.{seats_owe}
use Rattle.core_contract.specs.Disciplines.{LegalBy, own_discipline}
use Rattle.core_contract.specs.Discipline.{Discipline}
use Rattle.core_state.specs.declared.state.State.{State}
use Rattle.core_laws.specs.Stands as tables
use Rattle.core_tables.specs.Slots as slots
use Rattle.core_tables.specs.Stands as files
use Rattle.spawn_core.specs.declared.earliest.EarliestFirst.{EarliestFirst}
use Rattle.spawn_core.specs.Policies.{StandsBy}

-- what a core keeps, with its policy, and how many paid entries are still to come
pub record KeptBy (M : Type 0) : Type 0 where
  pub policy : M
  pub state : State
  pub files : slots.Facts
  pub owed : ℕ

-- the plan is sound, the journal is legal by the discipline, and each table stands for it; so do the
-- policy's own
pub record TablesStand (q : Discipline) (owns : List Entry → Type 0) (s : State) (f : slots.Facts)
    (j : List Entry) : Type 0 where
  pub tables : tables.Stands q.plan q.seats s j
  pub legal : LegalBy q j
  pub kept : files.Stands q.plan f j
  pub own : owns j

-- so do the tables of a core, and its count is what is owed
pub record StandsIn {M : Type 0} (q : Discipline) (owns : M → List Entry → Type 0) (c : KeptBy M)
    (j : List Entry) : Type 0 where
  pub both : TablesStand q (owns c.policy) c.state c.files j
  pub owed : c.owed ≡ seats_owe q.seats j

-- by a policy of these disciplines, whose own tables stand so: the core stands for some journal
pub record HasHistory {M B : Type 0} (rules : B → Discipline) (owns : B → M → List Entry → Type 0)
    (c : KeptBy M) : Type 0 where
  pub basis : B
  pub journal : List Entry
  pub stands : StandsIn (rules basis) (owns basis) c journal

-- the tables stand for some journal
pub record HasTables (s : State) : Type 0 where
  pub plan : Plan
  pub seats : ℕ
  pub journal : List Entry
  pub stands : tables.Stands plan seats s journal

-- the state and the policy stand for some journal, whatever is owed
pub record HasJournal {M B : Type 0} (rules : B → Discipline) (owns : B → M → List Entry → Type 0)
    (m : M) (s : State) : Type 0 where
  pub basis : B
  pub journal : List Entry
  pub stands : StandsBy (rules basis) s journal
  pub own : owns basis m journal

-- ---- by the rules of berths that groups have of their own

abbrev pub Kept : Type 0
Kept = KeptBy EarliestFirst

abbrev pub Stands : Plan → Kept → List Entry → Type 0
Stands p c j = StandsIn (own_discipline p) (λ _ _. Unit {0}) c j
