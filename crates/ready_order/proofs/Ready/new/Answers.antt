use Rattle.std.proofs.Common.{arith, ℕ, List, length, ap, subst}
use Rattle.ready_order.specs.declared.ActionState.{ActionState}
use Rattle.ready_order.specs.Board.{AreUsers, Fits, RightAt, shapes}
use Rattle.std.proofs.lemmas.Grind.{common_steps}
use Rattle.ready_order.proofs.Followed.{new_stands}
use Rattle.ready_order.proofs.Ready.new.Goals as goal

pub returns-clause-stands : goal.returns-clause-stands
returns-clause-stands c = new_stands c.args.plan.now _ (grind (arith, common_steps))

pub invariant_of-result : goal.invariant_of-result
invariant_of-result c =
    let users = c.in_ok-users.users in
    let board = c.in_ok-board.board in
    let e1 = c.as_slice.ensures.value in
    let e2 = c.as_slice-2.ensures.value in
    let works = c.as_slice-works.ensures in
    let len = ap length c.loop-work.invariant in
    let most = c.requires in
    record {
      small = grind (arith, common_steps);
      linked = subst (λ (ss : List ActionState). AreUsers (shapes ss) (length ss) users) e1
          (c.in_ok-users.ensures {u = tt});
      fits = subst (λ (ss : List ActionState). Fits (shapes ss) board) e2
          (c.in_ok-board.ensures {u = tt}).fits;
      right = subst (λ (ss : List ActionState). (a : ℕ) → RightAt ss board a) e2
          (c.in_ok-board.ensures {u = tt}).right;
    }
