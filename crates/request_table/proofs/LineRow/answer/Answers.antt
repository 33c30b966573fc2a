use Rattle.std.proofs.Common.{false, ap, ◌∙◌, length, rules}
use Rattle.std.specs.Prelude.{map}
use Rattle.std.proofs.lemmas.List.{length-map}
use Rattle.arrayvec.proofs.ArrayVecLemmas.{filter-from_retain, items-with_items}
use Rattle.request_table.specs.Rows.{is_open, with_pending}
use Rattle.request_table.proofs.Rowed.{row_of}
use Rattle.request_table.proofs.LineRow.answer.Goals as goal

pub returns-clause-row : goal.returns-clause-row
returns-clause-row c =
    let kept = filter-from_retain _ is_open _ (λ x b f' y called. search rules) _ _ c.retain.ensures.filtered in
    let changed = c.set_pending.ensures ∙ ap (map (with_pending c.args.number false)) c.deref_mut.ensures.value in
    let same = ap length changed ∙ length-map c.retain.new.self.items (with_pending c.args.number false) in
    ap (row_of c.args.self.now.last) (items-with_items c.retain.new.self _ same ∙ changed ∙ ap (map (with_pending c.args.number false)) kept)
