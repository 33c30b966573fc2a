use Rattle.journal_lookback.specs.Lookback.{front}
use Rattle.journal_ends.specs.Winning.{AreWinners}
use Rattle.journal_ends.proofs.winning.find_winners.Given as goal

abbrev pub invariant-loop-entry : goal.invariant-loop-entry
invariant-loop-entry l = AreWinners l.winners (front l.entries l.entry-index)
