use Rattle.std.proofs.Common.{option_copied}
use Rattle.journal_lookback.specs.Lookback.{front}
use Rattle.journal_ends.specs.Winning.{AreAnswers}
use Rattle.journal_ends.proofs.winning.find_answers.Given as goal

abbrev pub invariant-loop-entry : goal.invariant-loop-entry
invariant-loop-entry l = AreAnswers option_copied l.answers l.winners (front l.entries l.entry-index)
