use Rattle.journal_lookback.specs.Lookback.{front}
use Rattle.journal_ends.specs.Successes.{AreChances}
use Rattle.journal_ends.proofs.successes.find_chances.Given as goal

abbrev pub invariant-loop-entry : goal.invariant-loop-entry
invariant-loop-entry l = AreChances l.chances (front l.entries l.entry-index)
