use Rattle.std.proofs.Common.{◌<◌, length, take, set, get_or, refl, sym, ap, ◌∙◌, arith, add-one}
use Rattle.spawn_strategies.specs.declared.types.Name.TheVariants as name
use Rattle.spawn_strategies.specs.Choices.{all_placed, placed}
use Rattle.spawn_strategies.proofs.Placed.{placed_more}
use Rattle.spawn_strategies.proofs.placing.place_all.Goals as goal

pub loop-number-preserved : goal.loop-number-preserved
loop-number-preserved c =
    let i = c.loop-number.number in
    let ns = c.args.names.now in
    let ys = c.args.actions.now in
    let here = c.loop-number.actions in
    let y = c.index-actions-number.result in
    let n = get_or ns i name.Worker in
    let put = placed c.args.sandbox c.args.executor n in
    let below : i < length ns = let all = c.requires in let within = c.loop-number-test.true in omega arith in
    ap (λ z. set here i z) c.place.ensures
    ∙ ap (λ zs. set zs i (put (get_or zs i y))) c.loop-number.invariant
    ∙ placed_more c.args.sandbox c.args.executor ns ys i n name.Worker y below c.loop-number-test.true refl
    ∙ ap (λ k. all_placed c.args.sandbox c.args.executor (take k ns) ys) (sym (add-one i))
