use Rattle.std.proofs.Common.{option_copied, None, refl, sym, subst}
use Rattle.journal_lookback.specs.Lookback.{front}
use Rattle.journal_ends.proofs.Answered.{next_front, whole_front}
use Rattle.branch_losses.specs.Last.{AreAnswers}
use Rattle.branch_losses.proofs.Noted.{answers_more, answers_start}
use Rattle.branch_losses.proofs.attempts.find_answers.Goals as goal

pub loop-entry-init : goal.loop-entry-init
loop-entry-init c = answers_start c.args.nth option_copied None c.args.answers.now refl c.requires

pub loop-entry-preserved : goal.loop-entry-preserved
loop-entry-preserved c =
    let before = front c.args.entries.now c.loop-entry.entry-index in
    let more = next_front c.args.entries.now c.loop-entry.entry-index c.entry-item.result c.loop-entry-test.true c.entry-item.is in
    subst (AreAnswers c.args.nth option_copied c.note_answer.new.answers) (sym more)
    (answers_more c.args.nth option_copied c.loop-entry.answers c.note_answer.new.answers before c.entry-item.result c.loop-entry.invariant c.note_answer.ensures)

pub returns : goal.returns
returns c = subst (AreAnswers c.args.nth option_copied c.loop-entry.answers) (whole_front c.args.entries.now c.loop-entry.entry-index c.loop-entry-test.false) c.loop-entry.invariant
