use Rattle.std.proofs.Common.{◌≡◌, ◌++◌, ◌∷◌, [], ◌+◌, take, drop, length, Some, sym, ap, subst, ◌∙◌, append_assoc, arith}
use Rattle.std.specs.Prelude.{slice_get}
use Rattle.std.proofs.lemmas.List.{length-map, length-take-le}
use Rattle.action_list.specs.Plans.{local_of, plan_action, plan_actions}
use Rattle.list_actions.specs.Whole.{KnowsProducers}
use Rattle.list_actions.proofs.Orders.{take_this, drop_this}
use Rattle.action_list.proofs.Maps.{mapped_at}
use Rattle.action_list.proofs.planning.plan_actions.Goals as goal

pub number_at-key-requires : goal.number_at-key-requires
number_at-key-requires c =
    let long = ap length (c.as_slice-numbers.ensures ∙ c.requires.numbers) in
    let mapped = length-map c.args.actions.now (local_of c.args.made.now.keys) in
    let counted = c.loop-action.invariant.counted in
    let below = c.loop-action-test.true in
    omega (arith, long, mapped, counted, below)

pub plan_action-requires-clause-key : goal.plan_action-requires-clause-key
plan_action-requires-clause-key c =
    let keys = c.args.made.now.keys in
    let key = c.number_at-key.result in
    mapped_at (local_of keys) c.args.actions.now c.loop-action.action-index c.action-item.result key
    c.loop-action-test.true c.action-item.is
    (subst (λ ns. slice_get ns c.loop-action.action-index ≡ Some key) (c.as_slice-numbers.ensures ∙ c.requires.numbers)
    (subst (λ n. slice_get c.as_slice-numbers.result.now n ≡ Some key) c.loop-action.invariant.counted c.number_at-key.ensures))
    ∙ ap (λ ks. local_of ks c.action-item.result) (sym c.as_slice-keys.ensures)

pub loop-action-preserved : goal.loop-action-preserved
loop-action-preserved c =
    let i = c.loop-action.action-index in
    let xs = c.args.actions.now in
    let x = c.action-item.result in
    let keys = c.args.made.now.keys in
    let number : c.loop-action.number ≡ length (take i xs) = omega (arith, length-take-le i xs (omega arith)) in
    let this = take_this xs i x c.loop-action-test.true c.action-item.is in
    let rest = drop_this xs i x c.loop-action-test.true c.action-item.is in
    let later = plan_actions keys (take (i + 1) xs) (drop (i + 1) xs) in
    let now = rw c.as_slice-keys.ensures at (c.in_ok-plan_action.ensures (take i xs) c.loop-action.invariant.known) in
    let pushed = rw now at c.in_ok-push.ensures.items in
    record {
      counted = omega arith;
      known = subst (λ ys. KnowsProducers c.note_outputs.new.producers ys) (sym this) (c.in_ok-note_outputs.ensures (take i xs) c.loop-action.invariant.known number);
      made =
          ap (λ o. o ++ later) pushed
          ∙ append_assoc c.loop-action.planned.items (plan_action keys (take i xs) x ∷ []) later
          ∙ ap (λ front. c.loop-action.planned.items ++ (plan_action keys (take i xs) x ∷ plan_actions keys front (drop (i + 1) xs))) this
          ∙ ap (λ ys. c.loop-action.planned.items ++ plan_actions keys (take i xs) ys) (sym rest)
          ∙ c.loop-action.invariant.made;
    }
