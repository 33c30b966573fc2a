-- When the table's facts are those of a journal, whose newest entry stands first.
use Rattle.std.specs.Prelude.{◌≡◌, ℕ, ◌+◌, nat_lt, Bool, true, Option, Some, None, is_some, option_map, if◌then◌else◌, List, [], ◌∷◌, length, filter, map, reverse, slice_get, ℤ, pos, negsuc}
use Rattle.run_plan.specs.declared.plan.Plan.{Plan}
use Rattle.exec_journal.specs.Entry.{Entry}
use Rattle.exec_journal.specs.Entries.{Request}
use Rattle.exec_journal.specs.Words.{sends, pending, is_pending, has_cancel}
use Rattle.exec_journal.specs.Rules.{head}
use Rattle.request_table.specs.declared.LineRow.{LineRow}
use Rattle.request_table.specs.declared.Matching.{Matching}
use Rattle.request_table.specs.declared.Matching.TheVariants.{Pending, Cancelled, Closed, Never}
use Rattle.request_table.specs.declared.RequestRow.{RequestRow}
use Rattle.request_table.specs.Rows.{Facts, is_open, line_room, singles_of}

-- of a line: the number of its last Send, and its pending requests, the earliest sent first
pub record Waiting : Type 0 where
  pub last : Option ℕ
  pub places : List RequestRow

-- what a row says of its line: it may still have requests that were answered
abbrev pub told : LineRow → Waiting
told x = record { last = x.last; places = filter is_open x.places.items }

-- no request has a negative number
abbrev pub natural : ℤ → ℕ
natural (pos n) = n
natural (negsuc n) = 0

abbrev pub request_row : List Entry → Request → RequestRow
request_row j r = record {
  number = natural r.number;
  action = r.attempt.action;
  attempt = r.attempt.number;
  pending =
      true;
  cancelled = has_cancel j r;
}

unfoldable pub waiting_in : List Entry → ℕ → Waiting
waiting_in j l = record {
  last = option_map (λ r. natural r.number)
      (head (sends j l));
  places = reverse (map (request_row j) (pending j l));
}

-- Sends, the newest first: all have the number 0, or their numbers count up from 1
abbrev pub Numbered : Bool → List Request → Type 0
Numbered single [] = Unit {0}
Numbered single (r ∷ rs) =
    (r.number ≡ (if single then pos 0 else pos (length rs + 1))) × Numbered single rs

pub record AreNumbered (j : List Entry) (l : ℕ) : Type 0 where
  pub single : Bool
  pub numbers : Numbered single (sends j l)

-- it has the plan's room and kinds, each line as the journal has it, and requests are numbered in
-- order
pub record Stands (p : Plan) (f : Facts) (j : List Entry) : Type 0 where
  pub room : length f.lines ≡ line_room p
  pub kinds : f.singles ≡ map (singles_of p) p.actions
  pub each : (l : ℕ)
      → option_map told (slice_get f.lines l) ≡
      (if nat_lt l (line_room p) then Some (waiting_in j l) else None)
  pub numbered : (l : ℕ) → AreNumbered j l

-- ---- what an answer finds, by the journal

abbrev pub open_request : List Entry → Request → Matching
open_request j r = if has_cancel j r then Cancelled r.attempt.action r.attempt.number
    else Pending r.attempt.action r.attempt.number

-- of the request that was sent with the answer's number
abbrev pub of_sent : List Entry → Option Request → Matching
of_sent j (Some r) = if is_pending j r then open_request j r else Closed
of_sent j None = Never

-- of the pending request of a Single line, where all numbers are 0
abbrev pub of_pending : List Entry → ℕ → Option Request → Matching
of_pending j l (Some r) = open_request j r
of_pending j l None = if is_some (head (sends j l)) then Closed else Never
