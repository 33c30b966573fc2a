use Rattle.std.proofs.Common.{◌≡◌, length}
use Rattle.journal_ends.specs.Replay.{AllNew, new_action}
use Rattle.journal_ends.proofs.endings.new_actions.Given as goal

abbrev pub invariant-loop : goal.invariant-loop
invariant-loop l = AllNew new_action l.facts.items × (length l.facts.items ≡ l.counter)
