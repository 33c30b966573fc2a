use Rattle.std.proofs.Common.{option_copied, None, refl, reverse, sym, subst, ◌∙◌}
use Rattle.journal_lookback.specs.Lookback.{front}
use Rattle.journal_ends.specs.Winning.{AreAnswers}
use Rattle.journal_ends.proofs.Answered.{answers_start, answers_more, all_winning, next_front, whole_front}
use Rattle.journal_ends.proofs.winning.find_answers.Goals as goal

pub loop-entry-init : goal.loop-entry-init
loop-entry-init c = answers_start option_copied None c.args.answers.now c.args.winners.now refl c.requires.new

pub loop-entry-preserved : goal.loop-entry-preserved
loop-entry-preserved c =
    let before = front c.args.entries.now c.loop-entry.entry-index in
    let more = next_front c.args.entries.now c.loop-entry.entry-index c.entry-item.result c.loop-entry-test.true c.entry-item.is in
    subst (AreAnswers option_copied c.note_answer.new.answers c.args.winners.now) (sym more)
    (answers_more option_copied c.loop-entry.answers c.note_answer.new.answers c.args.winners.now (reverse c.args.entries.now) before c.entry-item.result c.requires.winners c.loop-entry.invariant c.note_answer.ensures)

pub returns : goal.returns
returns c = all_winning option_copied c.loop-entry.answers c.args.winners.now (reverse c.args.entries.now) (c.loop-entry.auto.answers ∙ c.requires.count) c.requires.winners
    (subst (AreAnswers option_copied c.loop-entry.answers c.args.winners.now) (whole_front c.args.entries.now c.loop-entry.entry-index c.loop-entry-test.false) c.loop-entry.invariant)
