use Rattle.std.proofs.Common.{◌≡◌, ◌+◌, ◌++◌, ◌∷◌, [], Some, cond, take, length, sym, ap, ◌∙◌, arith}
use Rattle.std.proofs.lemmas.List.{take_more, length-take-le}
use Rattle.list_actions.specs.Order.{is_among, last_from}
use Rattle.list_actions.proofs.Late.{last_from-append}
use Rattle.list_actions.proofs.makers.LastMakers.of.Goals as goal

pub loop-action-preserved : goal.loop-action-preserved
loop-action-preserved c =
    let i = c.loop-action.action-index in
    let xs = c.args.actions.now in
    record {
      counted = omega arith;
      made = λ q.
          let more = ap (λ ys. last_from 0 ys q) (take_more xs i c.action-item.result c.loop-action-test.true ∙ ap (λ x. take i xs ++ x ∷ []) (sym c.action-item.is)) in
          let ended = last_from-append 0 (take i xs) c.action-item.result q in
          let count : 0 + length (take i xs) ≡ c.loop-action.number = omega (arith, length-take-le i xs (omega arith)) in
          let noted = rw c.as_slice.ensures at (c.in_ok-note_all.ensures q) in
          noted
          ∙ ap (λ old. cond (is_among c.action-item.result.outputs q) (Some c.loop-action.number) old) (c.loop-action.invariant.made q)
          ∙ ap (λ n. cond (is_among c.action-item.result.outputs q) (Some n) (last_from 0 (take i xs) q)) (sym count)
          ∙ sym ended ∙ sym more;
    }
