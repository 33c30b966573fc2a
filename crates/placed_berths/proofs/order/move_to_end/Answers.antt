use Rattle.std.proofs.Common.{ap, ◌∙◌, ◌++◌, ◌∷◌, [], ◌==◌, not, length, arith, rules}
use Rattle.arrayvec.proofs.ArrayVecLemmas.{filter-from_retain}
use Rattle.placed_berths.proofs.WordsNoted.{one_fewer}
use Rattle.placed_berths.proofs.order.move_to_end.Goals as goal

pub returns-then-len-before : goal.returns-then-len-before
returns-then-len-before c = λ there.
    c.push.ensures.items
    ∙ ap (λ xs. xs ++ c.args.berth ∷ []) (filter-from_retain _ (λ v. not (v == c.args.berth)) _
    (λ x b f' y called. search rules) _ _ c.retain.ensures.filtered)

pub returns-else-len-before : goal.returns-else-len-before
returns-else-len-before c = λ there.
    let rest = ap length (filter-from_retain _ (λ v. not (v == c.args.berth)) _
    (λ x b f' y called. search rules) _ _ c.retain.ensures.filtered) in
    let fewer = one_fewer c.args.berth c.args.spoken.now.items there in
    let before = c.len-before.ensures.value in
    let now = c.len.ensures.value in
    let past = c.if-len-before.false in
    absurd (omega (arith, rest, fewer, before, now, past))
