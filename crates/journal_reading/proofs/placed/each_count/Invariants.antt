use Rattle.std.proofs.Common.{◌≡◌, ℕ, ◌≤◌, length}
use Rattle.journal_text.specs.Options.{each}
use Rattle.journal_text.specs.Values.{count_in}
use Rattle.journal_reading.specs.Pulls.{pull_row}
use Rattle.journal_reading.proofs.Steps.{behind}
use Rattle.journal_reading.proofs.placed.each_count.Given as goal

abbrev pub invariant-row : goal.invariant-row
invariant-row l = (d : ℕ) → 0 ≤ d → pull_row (each count_in) d l.initial.reader ≡ behind l.counts.items (pull_row (each count_in) d l.reader)

abbrev pub decreases-row : goal.decreases-row
decreases-row l = length l.reader
