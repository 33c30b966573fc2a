use Rattle.std.proofs.Common.{◌≡◌, None}
use Rattle.exec_journal.specs.History.{first}
use Rattle.exec_journal.specs.Words.{break_at}
use Rattle.journal_lookback.specs.Lookback.{front}
use Rattle.journal_lookback.proofs.lookback.line_cause.Given as goal

abbrev pub invariant-loop-i : goal.invariant-loop-i
invariant-loop-i l = first (break_at l.line) (front l.front l.i) ≡ None
