-- When the table's facts are those of a journal, whose newest entry stands first.
use Rattle.std.specs.Prelude.{◌≡◌, ℕ, nat_lt, Some, None, if◌then◌else◌, List, length, map, reverse, slice_get}
use Rattle.arrayvec.specs.ArrayVec.{ArrayVec}
use Rattle.run_plan.specs.declared.plan.Plan.{Plan}
use Rattle.exec_journal.specs.Entry.{Entry}
use Rattle.exec_journal.specs.Entries.{Request}
use Rattle.exec_journal.specs.Words.{pending, has_cancel, granted}
use Rattle.request_table.specs.Rows.{line_room}
use Rattle.cancel_rules.specs.declared.RequestRow.{RequestRow}
use Rattle.cancel_rules.specs.Marks.{Facts, row}

abbrev pub request_row : List Entry → Request → RequestRow
request_row j r = record { number = r.number; action = r.attempt.action; asked = has_cancel j r }

unfoldable pub row_in : List Entry → ℕ → ArrayVec RequestRow
row_in j l = row (reverse (map (request_row j) (pending j l)))

-- it has the plan's room, each line's pending requests, the earliest sent first, and of each action
-- whether it has a grant
pub record Stands (p : Plan) (f : Facts) (j : List Entry) : Type 0 where
  pub lines : (l : ℕ)
      → slice_get f.lines l ≡ (if nat_lt l (line_room p) then Some (row_in j l) else None)
  pub grants : (a : ℕ)
      → slice_get f.unwanted a ≡ (if nat_lt a (length p.actions) then Some (granted j a) else None)
