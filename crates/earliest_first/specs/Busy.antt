-- A berth on which no rule applies, whatever its group is.
use Rattle.std.specs.Prelude.{◌≡◌, ℕ, ◌==◌, Bool, false, ◌&&◌, not, Option, None, is_none}
use Rattle.worker_pool.specs.declared.LineRow.{LineRow}
use Rattle.worker_pool.specs.Rows as pool
use Rattle.cancel_rules.specs.Marks.{cancel_of}
use Rattle.core_state.specs.declared.state.State.{State}
use Rattle.core_state.specs.Choices.{cause_at, is_over}
use Rattle.exec_journal.specs.declared.attempt.Attempt.{Attempt}
use Rattle.core_tables.specs.declared.berth_group.BerthGroup.{BerthGroup}
use Rattle.earliest_first.specs.Choices.{first_choice, is_vacant, waiting_at}

-- the line is live, no attempt is bound to it, and it has no free place
abbrev pub is_full : State → ℕ → LineRow → Bool
is_full s l x = (pool.is_live_row x && not x.bound) && (pool.free_of s.pool l == 0)

-- a berth with this last line has nothing to quit, to kill, to gather or to cancel
abbrev pub is_at_rest : State → ℕ → ℕ → Bool
is_at_rest s w l =
    ((not (is_over s) && is_none (cause_at s w)) && is_none (cancel_of s.cancels l))
    && is_none (waiting_at s w)

-- no rule chooses anything on the berth, whatever its group and the group's next attempt are
pub record IsBusy (s : State) (w : ℕ) : Type 0 where
  pub goes_on : is_over s ≡ false
  pub first : (seat : BerthGroup) (next : Option Attempt) → first_choice s w seat next ≡ None
  pub occupied : is_vacant s w ≡ false
