use Rattle.std.proofs.Common.{◌≡◌, Bool, true, false, cond, ◌||◌, string_bytes, refl, ◌∙◌}
use Rattle.std.proofs.lemmas.Map.Text.{hash_set_updates_text}
use Rattle.std.specs.Str.{bytes_eq}
use Rattle.list_actions.specs.Seen.{has_seen}
use Rattle.list_actions.proofs.seen.Seen.note.Goals as goal

as_or : (a b : Bool) → cond a true b ≡ (a || b)
as_or true b = refl
as_or false b = refl

pub returns-clause-noted : goal.returns-clause-noted
returns-clause-noted c = λ q.
    let after = hash_set_updates_text (string_bytes c.in_ok-from_str.field-0) c.args.self.now.texts c.insert.new.self true c.in_ok-insert.ensures.updates q in
    let joined = after ∙ as_or (bytes_eq (string_bytes c.in_ok-from_str.field-0) q) (has_seen c.args.self.now q) in
    rw c.in_ok-from_str.ensures.ok at joined
