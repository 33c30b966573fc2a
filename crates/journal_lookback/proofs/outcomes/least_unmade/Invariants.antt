use Rattle.std.proofs.Common.{◌≡◌, drop}
use Rattle.exec_journal.specs.Outcomes.{lesser, least_without}
use Rattle.journal_lookback.proofs.outcomes.least_unmade.Given as goal

abbrev pub invariant-loop-maker : goal.invariant-loop-maker
invariant-loop-maker l = lesser l.least (least_without l.standings (drop l.maker-index l.makers)) ≡ least_without l.standings l.makers
