use Rattle.std.proofs.Common.{◌≡◌, length, map, reverse, option_copied, refl, ap, sym, subst, ◌∙◌, arith}
use Rattle.run_plan.specs.declared.plan.Branch.TheVariants.{Local, Remote}
use Rattle.exec_journal.specs.Ends.{ends_of}
use Rattle.branch_losses.specs.Last.{AreAnswers, AreOrders}
use Rattle.branch_losses.specs.Losses.{losses_before}
use Rattle.branch_losses.proofs.Counted.{ends_count, local_here, losses_step, remote_here, same_count}
use Rattle.branch_losses.proofs.lost.losses.Goals as goal

pub loop-a-preserved : goal.loop-a-preserved
loop-a-preserved c =
    let p = c.args.plan.now in
    let j = reverse c.args.j.now in
    let es = c.as_slice-ends.result.now in
    let is = c.as_slice-ends.ensures.value ∙ c.in_ok-ends.ensures in
    let same = ends_count p j es is in
    let same_journal = c.entries-entries.ensures in
    let first = subst (λ os. AreOrders (record { branch = Local; number = p.limit }) os j) (sym c.as_slice-local.ensures.value) (subst (λ hs. AreOrders (record { branch = Local; number = p.limit }) c.in_ok-local.local.items (reverse hs)) same_journal c.in_ok-local.ensures.orders) in
    let second = subst (λ os. AreOrders (record { branch = Remote; number = p.limit }) os j) (sym c.as_slice-remote.ensures.value) (subst (λ hs. AreOrders (record { branch = Remote; number = p.limit }) c.in_ok-remote.remote.items (reverse hs)) same_journal c.in_ok-remote.ensures.orders) in
    let answers = subst (λ xs. AreAnswers (record { branch = Remote; number = p.limit }) option_copied xs j) (sym c.as_slice-answers.ensures.value) (subst (λ hs. AreAnswers (record { branch = Remote; number = p.limit }) option_copied c.in_ok-answers.answers.items (reverse hs)) same_journal c.in_ok-answers.ensures.answers) in
    let lt = c.loop-a-test.true in (
      omega (arith, same, lt),
      losses_step p j c.loop-a.a c.loop-a.made.items c.push_lost.new.made.items c.push_lost-in-loop-a.new.made.items c.lost.result c.lost-in-loop-a.result
          c.loop-a.invariant.1 c.in_ok-push_lost.ensures c.in_ok-push_lost-2.ensures
          (c.lost.ensures ∙ local_here p j es c.as_slice-local.result.now c.loop-a.a _ _ is first (same_count _ _ _ _ c.as_slice-local.ensures.value c.in_ok-local.ensures.count refl) lt)
          (c.lost-in-loop-a.ensures ∙ remote_here p j es c.as_slice-remote.result.now c.as_slice-answers.result.now c.loop-a.a _ _ c.index-answers-a.result is second (same_count _ _ _ _ c.as_slice-remote.ensures.value c.in_ok-remote.ensures.count refl) answers (same_count _ _ _ _ c.as_slice-answers.ensures.value c.in_ok-answers.ensures.count refl) lt c.index-answers-a.is),
    )

pub returns : goal.returns
returns c =
    let p = c.args.plan.now in
    let j = reverse c.args.j.now in
    let same = ends_count p j c.as_slice-ends.result.now (c.as_slice-ends.ensures.value ∙ c.in_ok-ends.ensures) in
    let le = c.loop-a.invariant.0 in
    let past = c.loop-a-test.false in
    let whole : c.loop-a.a ≡ length p.actions = omega (arith, same, le, past) in
    c.loop-a.invariant.1 ∙ ap (losses_before p j) whole
