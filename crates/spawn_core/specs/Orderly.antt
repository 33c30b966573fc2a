-- What is said of each journal that a core stands for.
use Rattle.std.specs.Prelude.{◌≡◌, ℕ, true, false, Some, List, slice_get}
use Rattle.run_plan.specs.declared.plan.Plan.{Plan}
use Rattle.run_plan.specs.declared.plan.PlanAction.{PlanAction}
use Rattle.core_contract.specs.Disciplines.{LegalBy}
use Rattle.core_contract.specs.Discipline.{Discipline}
use Rattle.exec_journal.specs.Entry.{Entry}
use Rattle.exec_journal.specs.Outcomes.{is_ok, outcome_of}
use Rattle.exec_journal.specs.Paired.{Paired}
use Rattle.exec_journal.specs.Race.{Race}
use Rattle.exec_journal.specs.Words.{halted, stopped}
use Rattle.journal_laws.specs.Finished.{Finished}

-- each call was in its script and each reply is the discipline's; an action is granted once; each
-- consumed answer has a request of its own; what the policy says of each order held when it was
-- given; and once a lane was told to stop, and none has halted, all actions are settled, each has an
-- outcome, and nothing is lost
pub record Orderly (q : Discipline) (holds : List Entry → Type 0) (j : List Entry) : Type 0 where
  pub legal : LegalBy q j
  pub race : Race j
  pub paired : Paired q.plan j
  pub kept : holds j
  pub finished : (lane : ℕ) → stopped j lane ≡ true → halted j ≡ false → Finished q.plan j

-- every action has success
abbrev pub Complete : Plan → List Entry → Type 0
Complete p j = (a : ℕ) (x : PlanAction) → slice_get p.actions a ≡ Some x
    → is_ok (outcome_of p j a) ≡ true
