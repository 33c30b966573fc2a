use Rattle.std.proofs.Common.{option_copied}
use Rattle.journal_lookback.specs.Lookback.{front}
use Rattle.branch_losses.specs.Last.{AreAnswers}
use Rattle.branch_losses.proofs.attempts.find_answers.Given as goal

abbrev pub invariant-loop-entry : goal.invariant-loop-entry
invariant-loop-entry l = AreAnswers l.nth option_copied l.answers (front l.entries l.entry-index)
