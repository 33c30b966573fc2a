-- What a run has come to once all of its actions are settled.
use Rattle.std.specs.Prelude.{◌≡◌, ℕ, true, Some, List, slice_get}
use Rattle.run_plan.specs.declared.plan.Plan.{Plan}
use Rattle.run_plan.specs.declared.plan.PlanAction.{PlanAction}
use Rattle.exec_journal.specs.Entry.{Entry}
use Rattle.exec_journal.specs.Settled.{all_settled}
use Rattle.exec_journal.specs.Accounted.{Accounted}
use Rattle.exec_journal.specs.Outcomes.{outcome_of}
use Rattle.journal_laws.specs.Steps.{is_known}

-- all actions are settled, each has an outcome, and nothing is lost
pub record Finished (p : Plan) (j : List Entry) : Type 0 where
  pub settled_all : all_settled p j ≡ true
  pub known : (a : ℕ) (x : PlanAction) → slice_get p.actions a ≡ Some x
      → is_known (outcome_of p j a) ≡ true
  pub accounted : Accounted p j
