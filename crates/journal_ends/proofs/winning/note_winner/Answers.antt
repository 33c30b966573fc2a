use Rattle.std.proofs.Common.{Option, Some, set, ap, ◌∙◌}
use Rattle.std.specs.Option.{option_or}
use Rattle.exec_journal.specs.declared.attempt.Attempt.{Attempt}
use Rattle.list_lemmas.proofs.Updates.{set-update, update_past}
use Rattle.journal_ends.proofs.winning.note_winner.Goals as goal

pub returns-then-at-winners : goal.returns-then-at-winners
returns-then-at-winners c =
    ap (set c.args.winners.now c.args.attempt.action) c.or-first.ensures
    ∙ set-update (λ (w : Option Attempt). option_or w (Some c.args.attempt)) c.args.winners.now c.args.attempt.action _ c.if-at-winners.true

pub returns-else-at-winners : goal.returns-else-at-winners
returns-else-at-winners c = update_past (λ (w : Option Attempt). option_or w (Some c.args.attempt)) c.args.winners.now c.args.attempt.action c.if-at-winners.false
