use Rattle.std.proofs.Common.{◌≤◌, List, length, reverse, take, ap, subst, ◌∙◌, arith}
use Rattle.std.specs.List.{list_all}
use Rattle.std.proofs.lemmas.List.{length-take-le}
use Rattle.run_plan.specs.declared.plan.PlanAction.{PlanAction}
use Rattle.exec_journal.specs.Entry.{Entry}
use Rattle.journal_ends.specs.Successes.{succeeds, AreChances}
use Rattle.journal_ends.proofs.Succeeded.{new_table, front_won}
use Rattle.journal_ends.proofs.successes.is_all_success.Goals as goal

pub find_chances-requires : goal.find_chances-requires
find_chances-requires c = new_table 4096

pub returns : goal.returns
returns c =
    let few = c.requires.actions in
    let same = c.find_chances.auto.chances in
    let room : length c.args.plan.now.actions ≤ length c.find_chances.new.chances = omega arith in
    c.all_succeed.ensures
    ∙ ap (λ (xs : List PlanAction). list_all succeeds (take (length xs) c.find_chances.new.chances)) c.as_slice.ensures
    ∙ front_won c.args.plan.now (reverse c.args.j.now) c.find_chances.new.chances (length-take-le (length c.args.plan.now.actions) c.find_chances.new.chances room)
    (subst (λ (es : List Entry). AreChances c.find_chances.new.chances (reverse es)) c.entries.ensures c.find_chances.ensures)
