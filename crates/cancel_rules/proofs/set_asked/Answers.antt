use Rattle.std.proofs.Common.{◌≡◌, length, get_or, set, ap, ◌∙◌, w32, to_z, of_z, arith}
use Rattle.std.proofs.Math.Facts.{to_z-of_z}
use Rattle.request_table.proofs.Rowed.{map_first, map_first_step, map_first_all}
use Rattle.cancel_rules.specs.Marks.{with_ask}
use Rattle.cancel_rules.proofs.Marked.{blank}
use Rattle.cancel_rules.proofs.set_asked.Goals as goal

pub loop-place-preserved : goal.loop-place-preserved
loop-place-preserved c =
    let asked = with_ask (to_z w32 (of_z w32 c.args.number)) in
    ap (λ y. set c.loop-place.places c.loop-place.place-index y) c.with_ask.ensures
    ∙ ap (λ ys. set ys c.loop-place.place-index (asked (get_or ys c.loop-place.place-index blank))) c.loop-place.invariant
    ∙ map_first_step asked c.loop-place.place-index c.args.places.now blank c.loop-place-test.true

pub returns : goal.returns
returns c =
    let least = c.loop-place-test.false in
    let most = c.loop-place.auto.place-index-end in
    let all : c.loop-place.place-index ≡ length c.args.places.now = omega arith in
    c.loop-place.invariant ∙ ap (λ z. map_first (with_ask z) c.loop-place.place-index c.args.places.now) (to_z-of_z c.ranges.number)
    ∙ ap (λ i. map_first (with_ask c.args.number) i c.args.places.now) all ∙ map_first_all (with_ask c.args.number) c.args.places.now
