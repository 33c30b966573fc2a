use Rattle.std.proofs.Common.{◌≡◌, length, get_or, set, ap, ◌∙◌, arith}
use Rattle.request_table.proofs.Rowed.{map_first, map_first_step, map_first_all}
use Rattle.core_tables.specs.Matches.{spend_if, blank}
use Rattle.core_tables.proofs.matches.spend.Goals as goal

pub loop-one-preserved : goal.loop-one-preserved
loop-one-preserved c =
    ap (λ y. set c.loop-one.found c.loop-one.one-index y) c.spend_if.ensures
    ∙ ap (λ ys. set ys c.loop-one.one-index (spend_if c.args.attempt
    (get_or ys c.loop-one.one-index blank))) c.loop-one.invariant
    ∙ map_first_step (spend_if c.args.attempt) c.loop-one.one-index c.args.found.now blank
    c.loop-one-test.true

pub returns : goal.returns
returns c =
    let least = c.loop-one-test.false in
    let most = c.loop-one.auto.one-index-end in
    let all : c.loop-one.one-index ≡ length c.args.found.now = omega arith in
    c.loop-one.invariant ∙ ap (λ i. map_first (spend_if c.args.attempt) i c.args.found.now) all
    ∙ map_first_all (spend_if c.args.attempt) c.args.found.now
