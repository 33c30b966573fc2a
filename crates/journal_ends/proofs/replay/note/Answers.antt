use Rattle.std.proofs.Common.{refl, ◌≡◌, Bool, true, false, not, option_copied, reverse, sym, ◌∙◌}
use Rattle.journal_ends.proofs.Replayed.{noted_once, noted_twice, lines_noted}
use Rattle.journal_ends.proofs.replay.note.Goals as goal
use Rattle.journal_ends.proofs.replay.note.Goals.{then-ne, else-ne}

not_true : (b : Bool) → not b ≡ true → b ≡ false
not_true true h = absurd (cc)
not_true false h = refl

not_false : (b : Bool) → not b ≡ false → b ≡ true
not_false true h = refl
not_false false h = absurd (cc)

pub returns-clause-actions : goal.returns-clause-actions
returns-clause-actions c =
    let j = reverse c.args.before.now in let e = c.args.entry.now in let order = option_copied c.order_at-order.result in
    let r = c.action_of_reply-by_reply.result in let k = c.action_of_call-by_call.result in
    elim c.if-ne.branch [
      | then-ne w ↦
          noted_twice c.args.limit j e order r k c.order_at-order.ensures c.action_of_reply-by_reply.ensures c.action_of_call-by_call.ensures c.args.actions.now c.note_action.new.actions c.if-ne.actions
          c.requires.actions c.note_action.ensures (w.actions-is ∙ w.note_action-then-ne.ensures) (not_true _ (sym c.ne.ensures ∙ w.if-ne.true))
      | else-ne w ↦
          noted_once c.args.limit j e order r k c.order_at-order.ensures c.action_of_reply-by_reply.ensures c.action_of_call-by_call.ensures c.args.actions.now c.if-ne.actions
          c.requires.actions (w.actions-is ∙ c.note_action.ensures) (not_false _ (sym c.ne.ensures ∙ w.if-ne.false))
    ]

pub returns-clause-lines : goal.returns-clause-lines
returns-clause-lines c =
    lines_noted c.args.lines.now c.note_line.new.lines (reverse c.args.before.now) c.args.entry.now (option_copied c.order_at-order.result) c.is_late-late.result c.line_of_call.result
    c.requires.lines c.order_at-order.ensures c.is_late-late.ensures c.line_of_call.ensures c.note_line.ensures
