-- The text of a journal: its lines, and what each spells.
use Rattle.std.specs.Prelude.{◌≡◌, ℕ, ◌==◌, Bool, true, not, if◌then◌else◌, List, [], ◌∷◌, ◌++◌, Option, Some, None}
use Rattle.std.specs.List.{flat_map, list_all}
use Rattle.std.specs.Str.{is_utf8}
use Rattle.serde_json.specs.Data.{Data}
use Rattle.serde_json.specs.Read.{read}
use Rattle.serde_json.specs.Written.{compact_text}
use Rattle.run_plan.specs.declared.plan.Plan.{Plan}
use Rattle.placed_rules.specs.declared.placed.Placed.{Placed}
use Rattle.exec_journal.specs.Entry.{Entry}
use Rattle.journal_text.specs.Options.{◌>>=◌}
use Rattle.journal_text.specs.Placed.{alone, has_row, or_else, placed_data, placed_in}
use Rattle.journal_text.specs.Reading.{entry_in, plan_in}
use Rattle.journal_text.specs.Writing.{entry_data, plan_data}

-- ---- a line

-- the JSON value of a line, if it is UTF-8 and one JSON text
abbrev pub json_in : List ℕ → Option Data
json_in line = if is_utf8 line then read line else None

abbrev pub plan_of : List ℕ → Option Plan
plan_of line = json_in line >>= plan_in

abbrev pub entry_of : List ℕ → Option Entry
entry_of line = json_in line >>= entry_in

abbrev pub placed_row_of : List ℕ → Option Placed
placed_row_of line = json_in line >>= placed_in

-- the plan on its berths that a first line spells: by the plan's row alone, or by a row of its own
abbrev pub placed_of : List ℕ → Option Placed
placed_of line = or_else (alone (plan_of line)) (placed_row_of line)

-- ---- lines

-- no byte is a line feed
abbrev pub in_line : ℕ → Bool
in_line b = not (b == 10)

abbrev pub IsOneLine : List ℕ → Type 0
IsOneLine line = list_all in_line line ≡ true

-- what stands behind the last line feed is a line, unless it is empty
abbrev pub last_line : List ℕ → List (List ℕ)
last_line [] = []
last_line (b ∷ bs) = (b ∷ bs) ∷ []

-- the lines of bytes before which the line has begun so
abbrev pub lines_behind : List ℕ → List ℕ → List (List ℕ)
lines_behind begun [] = last_line begun
lines_behind begun (b ∷ bs) =
    if b == 10 then begun ∷ lines_behind [] bs else lines_behind (begun ++ b ∷ []) bs

abbrev pub lines_of : List ℕ → List (List ℕ)
lines_of bytes = lines_behind [] bytes

-- ---- the written text

unfoldable pub plan_text : Plan → List ℕ
plan_text p = compact_text (plan_data p)

unfoldable pub placed_row_text : Placed → List ℕ
placed_row_text x = compact_text (placed_data x)

-- the first line: the plan's row alone, where berths are own and there are no Ticks
abbrev pub first_text : Placed → List ℕ
first_text x = if has_row x.seating x.ticks then placed_row_text x else plan_text x.plan

unfoldable pub entry_text : Entry → List ℕ
entry_text e = compact_text (entry_data e)

-- the text with a line feed, and then each entry's line with one
abbrev pub entries_text : List ℕ → List Entry → List ℕ
entries_text front es = front ++ 10 ∷ flat_map (λ e. entry_text e ++ 10 ∷ []) es

-- a line for the plan, and one for each entry
abbrev pub text_of : Plan → List Entry → List ℕ
text_of p j = entries_text (plan_text p) j

-- a first line, and one for each entry
abbrev pub placed_text_of : Placed → List Entry → List ℕ
placed_text_of x j = entries_text (first_text x) j

-- the written line of a plan is a line, and spells it
pub record IsWrittenPlan (p : Plan) : Type 0 where
  pub one_line : IsOneLine (plan_text p)
  pub again : plan_of (plan_text p) ≡ Some p

-- the written first line of a plan on its berths is a line, and spells them
pub record IsWrittenPlaced (x : Placed) : Type 0 where
  pub one_line : IsOneLine (first_text x)
  pub again : placed_of (first_text x) ≡ Some x

-- the written line of an entry is a line, and spells it
pub record IsWrittenEntry (e : Entry) : Type 0 where
  pub one_line : IsOneLine (entry_text e)
  pub again : entry_of (entry_text e) ≡ Some e
