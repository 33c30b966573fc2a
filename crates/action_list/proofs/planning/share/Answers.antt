use Rattle.std.proofs.Common.{◌≡◌, ◌≤◌, arith, subst}
use Rattle.action_list.specs.Plans.{berths_at}
use Rattle.action_list.proofs.SoundGroups.{greatest_by, no_berths}
use Rattle.action_list.proofs.planning.share.Goals as goal

pub returns-else-berths_at-gt-MOST_LOCAL_BERTHS-clause-greatest :
    goal.returns-else-berths_at-gt-MOST_LOCAL_BERTHS-clause-greatest
returns-else-berths_at-gt-MOST_LOCAL_BERTHS-clause-greatest c =
    greatest_by c.args.counts.now c.args.instances c.loop-each.each c.loop-each.invariant.same
    (let few = c.if-berths_at-gt-MOST_LOCAL_BERTHS.false in
    let is = c.berths_at.ensures in omega (arith, few, is))

pub returns-after-loop-each-clause-greatest : goal.returns-after-loop-each-clause-greatest
returns-after-loop-each-clause-greatest c =
    greatest_by c.args.counts.now c.args.instances c.loop-each.each c.loop-each.invariant.same
    (let none = c.loop-each-test.false in
    let zero = no_berths c.args.counts.now in
    let end : 0 ≡ c.loop-each.each = omega (arith, none) in
    subst (λ n. berths_at c.args.counts.now n ≤ 48) end (omega (arith, zero)))
