-- When the table's facts are those of a journal, whose newest entry stands first.
use Rattle.std.specs.Prelude.{◌≡◌, ℕ, nat_lt, Bool, Option, Some, None, is_some, option_and_then, if◌then◌else◌, List, length, slice_get}
use Rattle.run_plan.specs.declared.plan.Plan.{Plan}
use Rattle.exec_journal.specs.declared.attempt.Attempt.{Attempt}
use Rattle.exec_journal.specs.Entry.{Entry}
use Rattle.exec_journal.specs.Words.{line_count, launch_of, last_line, started, broke, has_ended, was_killed, pending, live}
use Rattle.exec_journal.specs.Settled.{bound}
use Rattle.exec_journal.specs.Seated.{kind_for}
use Rattle.run_plan.specs.Groups.{capacity}
use Rattle.worker_pool.specs.declared.LineRow.{LineRow}
use Rattle.worker_pool.specs.Rows.{Facts, room_of}

-- a line's row, where it was launched: its capacity is that of the group for whose attempt it was,
-- and the rest is what the journal says of it
abbrev pub row_of : Plan → Option (ℕ × Attempt) → Bool → Bool → Bool → Bool → Bool → ℕ
    → Option LineRow
row_of p None s b e d o n = None
row_of p (Some x) s b e d o n =
    Some (record {
      capacity = capacity
          (kind_for p x.1);
      started = s;
      broken = b;
      ended = e;
      killed = d;
      bound = o;
      pending = n;
    })

unfoldable pub line_in : Plan → List Entry → ℕ → Option LineRow
line_in p j l = row_of p (launch_of j l) (started j l) (broke j l) (has_ended j l) (was_killed j l)
    (is_some (bound p j l)) (length (pending j l))

-- the last line of a berth, which is one of so many
abbrev pub seat_with : ℕ → ℕ → Option ℕ → Option (Option ℕ)
seat_with seats w o = if nat_lt w seats then Some o else None

unfoldable pub seat_in : ℕ → List Entry → ℕ → Option (Option ℕ)
seat_in seats j w = seat_with seats w (last_line j w)

-- it has a row for each line that was launched and for each of so many berths, as the journal has
-- them, and the plan's room
pub record Stands (p : Plan) (seats : ℕ) (f : Facts) (j : List Entry) : Type 0 where
  pub room : f.room ≡ room_of p
  pub count : length f.lines ≡ line_count j
  pub each_line : (l : ℕ) → slice_get f.lines l ≡ line_in p j l
  pub each_seat : (w : ℕ) → slice_get f.seats w ≡ seat_in seats j w

-- the berth's last line, where it is live
abbrev pub live_in : List Entry → ℕ → Option ℕ
live_in j w = option_and_then (λ l. if live j l then Some l else None) (last_line j w)
