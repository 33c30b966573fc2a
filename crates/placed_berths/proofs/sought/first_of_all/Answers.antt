use Rattle.std.proofs.Common.{◌+◌, ◌-◌, Option, option_map, ap, sym, ◌∙◌}
use Rattle.run_plan.specs.declared.plan.Branch.{Branch}
use Rattle.list_lemmas.specs.Options.{or_else}
use Rattle.placed_berths.specs.Due.{first_among}
use Rattle.placed_berths.specs.Walked.{first_step}
use Rattle.placed_berths.proofs.sought.first_of_all.Goals as goal

pub branch-branch-requires : goal.branch-branch-requires
branch-branch-requires g c = c.requires c.loop-action.action c.loop-action-test.true

pub loop-action-preserved : goal.loop-action-preserved
loop-action-preserved g c =
    let here = g.S.Sought.at c.args.sought.now in
    let a = c.loop-action.action in let n = c.args.count in
    sym (first_step here a n c.loop-action-test.true
    ∙ ap (λ (o : Option Branch). or_else (option_map (λ b. (a, b)) o)
    (first_among here (a + 1) (n - (a + 1))))
    (sym c.branch-branch.ensures ∙ c.in_default-branch.is)) ∙ c.loop-action.invariant
