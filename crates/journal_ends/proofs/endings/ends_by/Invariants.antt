use Rattle.std.proofs.Common.{◌≡◌, ◌++◌, drop}
use Rattle.journal_ends.specs.Endings.{ends_through}
use Rattle.journal_ends.proofs.endings.ends_by.Given as goal

abbrev pub invariant-loop-a : goal.invariant-loop-a
invariant-loop-a l = l.ends.items ++ ends_through l.standings (drop l.a l.verdicts) (drop l.a l.works) ≡ ends_through l.standings l.verdicts l.works
