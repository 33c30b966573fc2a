use Rattle.std.proofs.Common.{◌≡◌, List, length, get_or, set, ap, ◌∙◌, arith}
use Rattle.std.specs.Prelude.{map}
use Rattle.std.proofs.lemmas.List.{length-map}
use Rattle.arrayvec.specs.ArrayVec.{ArrayVec}
use Rattle.arrayvec.proofs.ArrayVecLemmas.{items-with_items}
use Rattle.request_table.proofs.Rowed.{map_first, map_first_step, map_first_all}
use Rattle.core_tables.specs.declared.matches.Match.{Match}
use Rattle.core_tables.specs.Matches.{won_row, spend_won}
use Rattle.core_tables.proofs.matches.spend_all.Goals as goal

abbrev row_of : List Match → ArrayVec Match
row_of xs = record { items = xs }

pub loop-row-preserved : goal.loop-row-preserved
loop-row-preserved c =
    let changed = c.spend_row.ensures ∙ ap (map (spend_won c.args.action)) c.deref_mut.ensures.value
    in
    let same = ap length changed ∙ length-map _ (spend_won c.args.action) in
    ap (λ (ms : List Match). set c.loop-row.rows c.loop-row.row-index (row_of ms))
    (items-with_items _ _ same ∙ changed)
    ∙ ap (λ ys. set ys c.loop-row.row-index (won_row c.args.action
    (get_or ys c.loop-row.row-index c.row-item.result))) c.loop-row.invariant
    ∙ map_first_step (won_row c.args.action) c.loop-row.row-index c.args.rows.now c.row-item.result
    c.loop-row-test.true

pub returns : goal.returns
returns c =
    let least = c.loop-row-test.false in
    let most = c.loop-row.auto.row-index-end in
    let all : c.loop-row.row-index ≡ length c.args.rows.now = omega arith in
    c.loop-row.invariant ∙ ap (λ i. map_first (won_row c.args.action) i c.args.rows.now) all
    ∙ map_first_all (won_row c.args.action) c.args.rows.now
