use Rattle.std.proofs.Common.{option_copied, sym, ap, ◌∙◌}
use Rattle.std.specs.Option.{option_or}
use Rattle.branch_losses.proofs.Noted.{copied_or, none_noted, noted, past_noted}
use Rattle.branch_losses.proofs.attempts.note_answer.Goals as goal

pub returns-then-at-answers : goal.returns-then-at-answers
returns-then-at-answers c =
    noted c.args.nth option_copied c.args.answers.now c.args.entry.now c.in-Some.action c.index-answers-at.result c.or-first.result (sym c.matched_action.ensures ∙ c.in-Some.is) c.if-at-answers.true c.index-answers-at.is
    (ap option_copied c.or-first.ensures ∙ copied_or c.index-answers-at.result c.answer_in.result ∙ ap (option_or (option_copied c.index-answers-at.result)) c.answer_in.ensures)

pub returns-else-at-answers : goal.returns-else-at-answers
returns-else-at-answers c = past_noted c.args.nth option_copied c.args.answers.now c.args.entry.now c.in-Some.action (sym c.matched_action.ensures ∙ c.in-Some.is) c.if-at-answers.false
