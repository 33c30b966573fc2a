use Rattle.std.proofs.Common.{◌≡◌, ℕ, ◌≤◌, length}
use Rattle.journal_text.specs.Options.{each}
use Rattle.journal_text.specs.Reading.{plan_action_in}
use Rattle.journal_reading.specs.Pulls.{pull_row}
use Rattle.journal_reading.proofs.Steps.{behind}
use Rattle.journal_reading.proofs.plans.each_action.Given as goal

abbrev pub invariant-row : goal.invariant-row
invariant-row l = (d : ℕ) → 3 ≤ d → pull_row (each plan_action_in) d l.initial.reader ≡ behind l.actions.items (pull_row (each plan_action_in) d l.reader)

abbrev pub decreases-row : goal.decreases-row
decreases-row l = length l.reader
