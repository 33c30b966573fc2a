use Rattle.std.proofs.Common.{length, ap, ◌∙◌}
use Rattle.std.specs.Prelude.{map}
use Rattle.std.proofs.Math.Facts.{to_z-of_z}
use Rattle.std.proofs.lemmas.List.{length-map}
use Rattle.arrayvec.proofs.ArrayVecLemmas.{items-with_items}
use Rattle.cancel_rules.specs.Marks.{with_ask}
use Rattle.cancel_rules.proofs.Marked.{row_written}
use Rattle.cancel_rules.proofs.Cancels.asked.Goals as goal

pub returns : goal.returns
returns c =
    let changed = c.set_asked.ensures ∙ ap (map (with_ask _)) c.deref_mut.ensures.value ∙ ap (λ z. map (with_ask z) c.index_mut.result.now.items) (to_z-of_z c.ranges.number) in
    let same = ap length changed ∙ length-map c.index_mut.result.now.items (with_ask c.args.number) in
    row_written (map (with_ask c.args.number)) _ _ c.args.line c.index_mut.result.now _ c.self.view_is c.requires c.index_mut.ensures.value (items-with_items c.index_mut.result.now _ same ∙ changed)
