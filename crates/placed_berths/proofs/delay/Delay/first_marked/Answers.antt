use Rattle.std.proofs.Common.{◌+◌, ◌-◌, Option, option_map, ap, arith, length, sym, ◌∙◌}
use Rattle.run_plan.specs.declared.plan.Branch.{Branch}
use Rattle.list_lemmas.specs.Options.{or_else}
use Rattle.placed_berths.specs.Due.{first_among}
use Rattle.placed_berths.specs.Walked.{first_step, none_left, passes}
use Rattle.placed_berths.proofs.delay.Delay.first_marked.Goals as goal

pub branch-branch-requires : goal.branch-branch-requires
branch-branch-requires g c =
    let next = c.in-Some.ensures in c.requires.asked c.in-Some.action next.high

pub returns-in_Some-branch : goal.returns-in_Some-branch
returns-in_Some-branch g c =
    let here = g.S.Sought.at c.args.sought.now in
    let a = c.in-Some.action in let n = length c.args.self.now.marks in
    let next = c.in-Some.ensures in let high = next.high in
    ap (λ (o : Option Branch). or_else (option_map (λ b. (a, b)) o)
    (first_among here (a + 1) (n - (a + 1)))) (sym c.in_Some-branch.is ∙ c.branch-branch.ensures)
    ∙ sym (first_step here a n high)
    ∙ passes here c.loop-action.start a n next.low (omega (arith, high))
    (λ k low lt. c.requires.unmarked k (next.passed k low lt))
    ∙ c.loop-action.invariant.none

pub loop-action-preserved : goal.loop-action-preserved
loop-action-preserved g c =
    let here = g.S.Sought.at c.args.sought.now in
    let a = c.in-Some.action in let n = length c.args.self.now.marks in
    let next = c.in-Some.ensures in let high = next.high in
    record {
      within = omega (arith, high);
      none = ap (λ (o : Option Branch). or_else (option_map (λ b. (a, b)) o)
          (first_among here (a + 1) (n - (a + 1))))
          (sym c.in_default-branch.is ∙ c.branch-branch.ensures)
          ∙ sym (first_step here a n high)
          ∙ passes here c.loop-action.start a n next.low (omega (arith, high))
          (λ k low lt. c.requires.unmarked k (next.passed k low lt))
          ∙ c.loop-action.invariant.none;
    }

pub returns : goal.returns
returns g c =
    let none = c.in_default.ensures in
    let within = c.loop-action.invariant.within in
    sym (none_left (g.S.Sought.at c.args.sought.now) c.loop-action.start
    (length c.args.self.now.marks) within
    (λ k low lt. c.requires.unmarked k (none k low lt)))
    ∙ c.loop-action.invariant.none
