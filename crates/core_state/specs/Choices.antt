-- What is read off the tables.
use Rattle.std.specs.Prelude.{◌≡◌, ℕ, zero, suc, ◌+◌, ◌-◌, ◌<◌, ◌≤◌, ◌^◌, nat_lt, Bool, true, false, ◌&&◌, ◌||◌, not, Option, Some, None, is_some, option_map, unwrap_or, if◌then◌else◌, List, [], ◌∷◌, length, slice_get}
use Rattle.std.specs.List.{find}
use Rattle.run_plan.specs.declared.plan.Branch.{Branch}
use Rattle.exec_journal.specs.declared.attempt.Attempt.{Attempt}
use Rattle.exec_journal.specs.declared.ends.Cause.{Cause}
use Rattle.exec_journal.specs.declared.reply.Why.TheVariants as why
use Rattle.exec_journal.specs.Entries.{attempt_of}
use Rattle.exec_journal.specs.Words.{why_of}
use Rattle.run_plan.specs.Groups.{berths, is_single, is_remote}
use Rattle.worker_pool.specs.declared.LineRow.{LineRow}
use Rattle.worker_pool.specs.Rows as pool
use Rattle.cancel_rules.specs.Marks.{cancel_of}
use Rattle.ready_order.specs.Queue.{earliest_in, none_waits}
use Rattle.retry_rules.specs.Counts.{ended_of}
use Rattle.core_state.specs.declared.choice.Choice.{Choice}
use Rattle.core_state.specs.declared.choice.Choice.TheVariants as choice
use Rattle.core_tables.specs.declared.greetings.Greeting.{Greeting}
use Rattle.core_tables.specs.declared.last.LastLine.{LastLine}
use Rattle.core_tables.specs.declared.matches.Match.{Match}
use Rattle.core_tables.specs.declared.berth_group.BerthGroup.{BerthGroup}
use Rattle.core_state.specs.declared.state.State.{State}
use Rattle.core_tables.specs.Matches.{matches_of, is_waiting}
use Rattle.core_tables.specs.Seats.{seat_at}

-- what is read of the berth is there
pub record Reads (s : State) (w : ℕ) : Type 0 where
  pub berth : w < length s.pool.seats
  pub last : length s.last ≡ length s.pool.seats
  pub matches : length s.matches ≡ length s.pool.seats
  pub greetings : length s.greetings ≡ length s.pool.seats
  pub lines : (v l : ℕ) → pool.last_of s.pool v ≡ Some l → l < length s.pool.lines
  pub cancels : length s.pool.lines ≤ length s.cancels.lines
  pub actions : length s.attempts.ended ≡ length s.ready
  pub numbers : (a : ℕ) (b : Branch) → ended_of s.attempts a b < 2 ^ 32 - 1
  pub few : length s.pool.seats < 2 ^ 31

abbrev pub row_at : State → ℕ → LineRow
row_at s l = unwrap_or (slice_get s.pool.lines l) (pool.new_line 0)

abbrev pub cause_on : Option LastLine → Option Cause
cause_on (Some x) = x.cause
cause_on None = None

abbrev pub cause_at : State → ℕ → Option Cause
cause_at s w = cause_on (slice_get s.last w)

abbrev pub attempt_on : Option LastLine → Option Attempt
attempt_on (Some x) = x.attempt
attempt_on None = None

abbrev pub attempt_at : State → ℕ → Option Attempt
attempt_at s w = attempt_on (slice_get s.last w)

abbrev pub is_over : State → Bool
is_over s = none_waits s.ready || s.halted
