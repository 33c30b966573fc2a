use Rattle.std.proofs.Common.{◌≡◌, take, drop, length, sym, ap, subst, ◌∙◌, arith}
use Rattle.std.proofs.lemmas.List.{length-take-le}
use Rattle.std.proofs.lemmas.Result.{err_from_is_err_and}
use Rattle.list_actions.specs.Order.{is_late, outputs_of}
use Rattle.list_actions.specs.Tables.{HasMakers, HasNames, HasPaths}
use Rattle.list_actions.proofs.Late.{late_at}
use Rattle.list_actions.proofs.Orders.{take_this, order_refused, order_passed}
use Rattle.list_actions.proofs.order.check_order.Goals as goal

pub returns-in_err-check_action : goal.returns-in_err-check_action
returns-in_err-check_action c =
    let i = c.loop-action.action-index in
    let xs = c.args.actions.now in
    let number : c.loop-action.number ≡ length (take i xs) = omega (arith, length-take-le i xs (omega arith)) in
    let makers : HasMakers c.in_ok-makers.makers c.loop-action.number (drop i xs) = record {
      late = λ q.
          ap (λ l. is_late c.loop-action.number l) (c.in_ok-makers.ensures q)
          ∙ late_at c.loop-action.number i xs q c.loop-action.invariant.counted (omega arith);
    } in
    let p = err_from_is_err_and c.from_residual-in_err-check_action.result c.from_residual-in_err-check_action.ensures.1 in
    rw (p.1, p.2) (order_refused xs i c.action-item.result c.in_err-check_action.field-0.0 c.loop-action.invariant.checked c.loop-action-test.true c.action-item.is
    (c.in_err-check_action.ensures.fault (take i xs) (drop i xs) c.loop-action.invariant.named c.loop-action.invariant.made_before makers number))

pub loop-action-preserved : goal.loop-action-preserved
loop-action-preserved c =
    let i = c.loop-action.action-index in
    let xs = c.args.actions.now in
    let number : c.loop-action.number ≡ length (take i xs) = omega (arith, length-take-le i xs (omega arith)) in
    let makers : HasMakers c.in_ok-makers.makers c.loop-action.number (drop i xs) = record {
      late = λ q.
          ap (λ l. is_late c.loop-action.number l) (c.in_ok-makers.ensures q)
          ∙ late_at c.loop-action.number i xs q c.loop-action.invariant.counted (omega arith);
    } in
    let this = take_this xs i c.action-item.result c.loop-action-test.true c.action-item.is in
    record {
      counted = omega arith;
      checked = order_passed xs i c.action-item.result c.loop-action.invariant.checked c.loop-action-test.true c.action-item.is
          (c.in_ok-check_action.ensures.fault (take i xs) (drop i xs) c.loop-action.invariant.named c.loop-action.invariant.made_before makers number);
      named = subst (λ ys. HasNames c.check_action.new.names ys) (sym this) (c.in_ok-check_action.ensures.names (take i xs) c.loop-action.invariant.named);
      made_before = subst (λ ys. HasPaths c.check_action.new.made (outputs_of ys)) (sym this) (c.in_ok-check_action.ensures.paths (take i xs) c.loop-action.invariant.made_before);
    }
