use Rattle.std.proofs.Common.{◌∙◌, ◌+◌, ◌-◌, length, take, drop, ap, sym, arith}
use Rattle.std.specs.Prelude.{◌&&◌}
use Rattle.json_framing.specs.Lines.{is_blank}
use Rattle.json_framing.proofs.Splitters.{blank_on}
use Rattle.json_framing.proofs.line.is_blank.Goals as goal

pub returns-then-not-is_blank_part : goal.returns-then-not-is_blank_part
returns-then-not-is_blank_part c = let inv = c.loop-at.invariant in let n = length (take c.min.result c.part-part.result.now) in
    let on = blank_on c.args.held.now c.part-part.result.now c.loop-at.at c.args.end c.min.result c.part-part.ensures inv.1 c.min.ensures in
    ap (λ x. x && is_blank (take (c.args.end - (c.loop-at.at + n)) (drop (c.loop-at.at + n) c.args.held.now))) c.if-not-is_blank_part.ensures ∙ (sym on.1 ∙ sym inv.2)

pub loop-at-preserved : goal.loop-at-preserved
loop-at-preserved c = let inv = c.loop-at.invariant in let n = length (take c.min.result c.part-part.result.now) in
    let on = blank_on c.args.held.now c.part-part.result.now c.loop-at.at c.args.end c.min.result c.part-part.ensures inv.1 c.min.ensures in (
      (let low = inv.0 in omega arith),
      on.0,
      inv.2 ∙ (on.1 ∙ ap (λ x. x && is_blank (take (c.args.end - (c.loop-at.at + n)) (drop (c.loop-at.at + n) c.args.held.now))) (sym c.if-not-is_blank_part.ensures)),
    )
