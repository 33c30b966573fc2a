use Rattle.std.proofs.Common.{string_bytes, Some}
use Rattle.std.proofs.lemmas.Map.Text.{hash_map_updates_text}
use Rattle.list_actions.proofs.makers.LastMakers.note.Goals as goal

pub returns : goal.returns
returns c = λ q.
    let after = hash_map_updates_text (string_bytes c.in_ok-from_str.field-0) c.args.self.now.makers c.insert.new.self (Some c.args.number) c.in_ok-insert.ensures.updates q in
    rw c.in_ok-from_str.ensures.ok at after
