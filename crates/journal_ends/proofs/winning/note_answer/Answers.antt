use Rattle.std.proofs.Common.{option_copied, get_or, None, inl, inr, sym, ap, ◌∙◌}
use Rattle.std.specs.Option.{option_or}
use Rattle.std.proofs.lemmas.Option.{slice_get-get_or}
use Rattle.journal_ends.proofs.Answered.{noted, copied_or, none_noted, off_lists}
use Rattle.journal_ends.proofs.winning.note_answer.Goals as goal
use Rattle.journal_ends.proofs.winning.note_answer.Goals.{else-at-answers-via-then-at-answers+else-at-winners, else-at-answers-via-else-at-answers}

pub returns-then-at-winners : goal.returns-then-at-winners
returns-then-at-winners c =
    noted option_copied c.args.answers.now c.args.winners.now c.args.entry.now c.in-Some.action c.index-answers-at.result c.or-first.result (get_or c.args.winners.now c.in-Some.action None) (sym c.matched_action.ensures ∙ c.in-Some.is)
    c.if-at-answers.true c.if-at-winners.true c.index-answers-at.is (slice_get-get_or c.args.winners.now c.in-Some.action None c.if-at-winners.true)
    (ap option_copied c.or-first.ensures ∙ copied_or c.index-answers-at.result c.answer_at.result ∙ ap (option_or (option_copied c.index-answers-at.result)) c.answer_at.ensures)

pub returns-else-at-answers : goal.returns-else-at-answers
returns-else-at-answers c =
    let at = sym c.matched_action.ensures ∙ c.in-Some.is in
    none_noted option_copied c.args.answers.now c.args.winners.now c.args.entry.now
    (off_lists c.args.answers.now c.args.winners.now c.args.entry.now c.in-Some.action at
    (elim c.else-at-answers.branch [
      | else-at-answers-via-then-at-answers+else-at-winners w ↦ inr w.if-at-winners.false
      | else-at-answers-via-else-at-answers w ↦ inl w.if-at-answers.false
    ]))
