use Rattle.journal_lookback.specs.Lookback.{front}
use Rattle.journal_lookback.proofs.States.{Follows}
use Rattle.journal_lookback.proofs.lookback.end.Given as goal

abbrev pub invariant-loop-i : goal.invariant-loop-i
invariant-loop-i l = Follows l.track l.won (front l.entries l.i) l.attempt
