use Rattle.std.proofs.Common.{◌≡◌, ap, sym, ◌∙◌, not, Some, position}
use Rattle.std.specs.Str.{bytes_eq}
use Rattle.action_list.specs.Keys.{with_bytes}
use Rattle.list_actions.specs.Order.{is_among}
use Rattle.action_list.proofs.Tables.{any_text, inserted_text, place_inserted, texts}
use Rattle.action_list.proofs.table.KeyTable.number.Goals as goal

added : (c : goal.In_ok-insert_full) → texts c.insert_full.new.self.keys ≡ with_bytes (texts c.self.inside.keys.keys) c.args.key.now
added c = ap texts c.in_ok-insert_full.ensures.keys ∙ inserted_text c.self.inside.keys.keys c.args.key

pub returns-clause-number : goal.returns-clause-number
returns-clause-number c =
    ap (position (λ k. bytes_eq k c.args.key.now)) (added c)
    ∙ place_inserted c.self.inside.keys.keys c.args.key.now ∙ ap Some (sym c.in_ok-insert_full.ensures.index)

pub returns-clause-fresh : goal.returns-clause-fresh
returns-clause-fresh c =
    c.in_ok-insert_full.ensures.added ∙ ap not (any_text c.args.key.now c.self.inside.keys.keys)
    ∙ ap (λ ts. not (is_among ts c.args.key.now)) c.self.view_is

pub returns-clause-added : goal.returns-clause-added
returns-clause-added c = added c ∙ ap (λ ts. with_bytes ts c.args.key.now) c.self.view_is
