use Rattle.std.proofs.Common.{ℕ, Option, option_copied, unwrap_or, set, reverse, ap, sym, ◌∙◌}
use Rattle.journal_ends.specs.Replay.{action_after}
use Rattle.list_lemmas.specs.Places.{update_if}
use Rattle.list_lemmas.proofs.Updates.{set-update, update_past}
use Rattle.journal_ends.proofs.replay.note_action.Goals as goal

pub returns-then-at-actions : goal.returns-then-at-actions
returns-then-at-actions c =
    let g = action_after (reverse c.args.joining.now.before.now) c.args.limit c.in-Some.action (option_copied c.args.joining.now.order) c.args.joining.now.entry.now in
    ap (set c.args.actions.now c.in-Some.action) c.action_next.ensures
    ∙ set-update g c.args.actions.now c.in-Some.action _ c.if-at-actions.true
    ∙ sym (ap (λ (o : Option ℕ). update_if (action_after (reverse c.args.joining.now.before.now) c.args.limit (unwrap_or o 0) (option_copied c.args.joining.now.order) c.args.joining.now.entry.now) c.args.actions.now o) c.in-Some.is)

pub returns-else-at-actions : goal.returns-else-at-actions
returns-else-at-actions c =
    update_past (action_after (reverse c.args.joining.now.before.now) c.args.limit c.in-Some.action (option_copied c.args.joining.now.order) c.args.joining.now.entry.now) c.args.actions.now c.in-Some.action c.if-at-actions.false
    ∙ sym (ap (λ (o : Option ℕ). update_if (action_after (reverse c.args.joining.now.before.now) c.args.limit (unwrap_or o 0) (option_copied c.args.joining.now.order) c.args.joining.now.entry.now) c.args.actions.now o) c.in-Some.is)
