-- How each action of a plan ends, in their order.
use Rattle.std.specs.Prelude.{ℕ, suc, List, [], ◌∷◌}
use Rattle.run_plan.specs.declared.plan.Branch.TheVariants.{Local, Remote}
use Rattle.run_plan.specs.declared.plan.Plan.{Plan}
use Rattle.run_plan.specs.declared.plan.PlanAction.{PlanAction}
use Rattle.exec_journal.specs.declared.ends.ActionEnd.{ActionEnd}
use Rattle.exec_journal.specs.Entry.{Entry}
use Rattle.exec_journal.specs.Outcomes.{outcome_of, fate_of}

abbrev pub action_end : Plan → List Entry → ℕ → ActionEnd
action_end p j a = record
    { outcome = outcome_of p j a; local = fate_of p j a Local; remote = fate_of p j a Remote }

-- those of the actions from a on
abbrev pub ends_from : Plan → List Entry → ℕ → List PlanAction → List ActionEnd
ends_from p j a [] = []
ends_from p j a (x ∷ xs) = action_end p j a ∷ ends_from p j (suc a) xs

unfoldable pub ends_of : Plan → List Entry → List ActionEnd
ends_of p j = ends_from p j 0 p.actions
