use Rattle.std.proofs.Common.{ap, ◌∙◌, ◌++◌, ◌∷◌, [], ◌+◌}
use Rattle.placed_berths.proofs.Below.{berths_next}
use Rattle.placed_berths.proofs.order.silent_berths.Goals as goal

pub loop-berth-preserved : goal.loop-berth-preserved
loop-berth-preserved c =
    let n = c.loop-berth.berth in (
      c.push.ensures.items ∙ ap (λ xs. xs ++ n ∷ []) c.loop-berth.invariant.0 ∙ berths_next n,
      c.push.ensures.len ∙ ap (λ m. m + 1) c.loop-berth.invariant.1,
    )
