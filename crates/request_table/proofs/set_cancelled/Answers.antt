use Rattle.std.proofs.Common.{◌≡◌, length, get_or, set, ap, ◌∙◌, arith}
use Rattle.request_table.specs.Rows.{with_cancel}
use Rattle.request_table.proofs.Rowed.{blank, map_first, map_first_step, map_first_all}
use Rattle.request_table.proofs.set_cancelled.Goals as goal

pub loop-place-preserved : goal.loop-place-preserved
loop-place-preserved c =
    ap (λ y. set c.loop-place.places c.loop-place.place-index y) c.with_cancel.ensures
    ∙ ap (λ ys. set ys c.loop-place.place-index (with_cancel c.args.number (get_or ys c.loop-place.place-index blank))) c.loop-place.invariant
    ∙ map_first_step (with_cancel c.args.number) c.loop-place.place-index c.args.places.now blank c.loop-place-test.true

pub returns : goal.returns
returns c =
    let least = c.loop-place-test.false in
    let most = c.loop-place.auto.place-index-end in
    let all : c.loop-place.place-index ≡ length c.args.places.now = omega arith in
    c.loop-place.invariant ∙ ap (λ i. map_first (with_cancel c.args.number) i c.args.places.now) all ∙ map_first_all (with_cancel c.args.number) c.args.places.now
