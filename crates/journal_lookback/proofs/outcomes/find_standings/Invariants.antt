use Rattle.std.proofs.Common.{◌≡◌, reverse, take, drop}
use Rattle.exec_journal.specs.Settled.{standings_from, standings}
use Rattle.journal_lookback.proofs.outcomes.find_standings.Given as goal

abbrev pub invariant-loop-a : goal.invariant-loop-a
invariant-loop-a l = standings_from l.plan (reverse l.entries) (take l.a l.all) (drop l.a l.plan.actions) ≡ standings l.plan (reverse l.entries)
