use Rattle.std.proofs.Common.{◌≡◌, length}
use Rattle.journal_ends.specs.Replay.{AllNew, new_line}
use Rattle.journal_ends.proofs.endings.new_lines.Given as goal

abbrev pub invariant-loop : goal.invariant-loop
invariant-loop l = AllNew new_line l.facts.items × (length l.facts.items ≡ l.counter)
