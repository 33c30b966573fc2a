use Rattle.std.proofs.Common.{◌≡◌, [], drop}
use Rattle.journal_ends.specs.Endings.{standings_through}
use Rattle.journal_ends.proofs.endings.standings_by.Given as goal

abbrev pub invariant-loop-a : goal.invariant-loop-a
invariant-loop-a l = standings_through l.standings.items (drop l.a l.verdicts) (drop l.a l.works) ≡ standings_through [] l.verdicts l.works
