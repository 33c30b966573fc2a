use Rattle.std.proofs.Common.{◌<◌, Some, length, ap, ◌∙◌, ◌++◌, ◌∷◌, [], rules, arith}
use Rattle.arrayvec.proofs.ArrayVecLemmas.{filter-from_retain}
use Rattle.request_table.specs.Rows.{is_open, new_place}
use Rattle.request_table.proofs.Rowed.{row_of}
use Rattle.request_table.proofs.LineRow.send.Goals as goal

pub push-requires : goal.push-requires
push-requires c =
    let kept = filter-from_retain _ is_open _ (λ x b f' y called. search rules) _ _ c.retain.ensures.filtered in
    let free : length c.retain.new.self.items < 8 = rw kept c.requires in
    (omega arith, free)

pub returns : goal.returns
returns c =
    let kept = filter-from_retain _ is_open _ (λ x b f' y called. search rules) _ _ c.retain.ensures.filtered in
    ap (row_of (Some c.args.number)) (c.push.ensures.items ∙ ap (λ xs. xs ++ new_place c.args.number c.args.action c.args.attempt ∷ []) kept)
