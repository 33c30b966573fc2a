use Rattle.std.proofs.Common.{arith, sym, ◌∙◌}
use Rattle.std.proofs.lemmas.List.Sums.{prefix_len-le-length, prefix_len_passes, prefix_len_is}
use Rattle.ready_order.specs.Queue.{has_success}
use Rattle.ready_order.proofs.board.supplied_from.Goals as goal

pub loop-supplied-init : goal.loop-supplied-init
loop-supplied-init c =
    let passes = has_success c.args.actions.now in
    let known = c.requires in
    let most = prefix_len-le-length passes c.args.producers.now in
    record {
      within = omega arith;
      passed = λ k lt. prefix_len_passes passes c.args.producers.now k 0 (omega arith);
    }

pub returns-else-has_success : goal.returns-else-has_success
returns-else-has_success c =
    sym (prefix_len_is
    (has_success c.args.actions.now) c.args.producers.now c.loop-supplied.supplied 0
    c.loop-supplied.invariant.within c.loop-supplied.invariant.passed
    (λ _. sym c.has_success.ensures ∙ c.if-has_success.false))

pub returns-after-loop-supplied : goal.returns-after-loop-supplied
returns-after-loop-supplied c =
    sym (prefix_len_is
    (has_success c.args.actions.now) c.args.producers.now c.loop-supplied.supplied 0
    c.loop-supplied.invariant.within c.loop-supplied.invariant.passed (λ lt. absurd (let past =
    c.loop-supplied-test.false in omega arith)))
