-- As many ends as actions.
use Rattle.std.proofs.Common.{◌≡◌, ℕ, suc, List, [], ◌∷◌, length, refl, ap, sym, ◌∙◌}
use Rattle.run_plan.specs.declared.plan.Plan.{Plan}
use Rattle.run_plan.specs.declared.plan.PlanAction.{PlanAction}
use Rattle.exec_journal.specs.declared.ends.ActionEnd.{ActionEnd}
use Rattle.exec_journal.specs.Entry.{Entry}
use Rattle.exec_journal.specs.Ends.{ends_from, ends_of}
use Rattle.journal_lookback.proofs.Judged.{ends_start}

length_from : (p : Plan) (j : List Entry) (a : ℕ) (xs : List PlanAction) → length (ends_from p j a xs) ≡ length xs
length_from p j a [] = refl
length_from p j a (x ∷ xs) = ap suc (length_from p j (suc a) xs)

pub length-ends : (p : Plan) (j : List Entry) → length (ends_of p j) ≡ length p.actions
length-ends p j = ap (length {A = ActionEnd}) (sym (ends_start p j)) ∙ length_from p j 0 p.actions
