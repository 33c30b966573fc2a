-- The facts that the table keeps, and what a call makes of them.
use Rattle.std.specs.Prelude.{ℕ, Bool, true, false, ◌&&◌, ◌||◌, not, Option, Some, None, option_map, unwrap_or, List, [], ◌∷◌, ◌++◌, length, filter, map, slice_get, replicate, ℤ}
use Rattle.std.specs.List.{find}
use Rattle.std.specs.Ordering.{int_eq}
use Rattle.arrayvec.specs.ArrayVec.{ArrayVec}
use Rattle.run_plan.specs.declared.plan.Plan.{Plan}
use Rattle.list_lemmas.specs.Places.{update}
use Rattle.request_table.specs.Rows.{line_room}
use Rattle.cancel_rules.specs.declared.RequestRow.{RequestRow}

pub record Facts : Type 0 where
  -- of each line its pending requests, the earliest sent first
  pub lines : List (ArrayVec RequestRow)
  -- of each action whether its requests aren't wanted any longer
  pub unwanted : List Bool

abbrev pub row : List RequestRow → ArrayVec RequestRow
row xs = record { items = xs }

abbrev pub new_facts : Plan → Facts
new_facts p = record {
  lines = replicate (line_room p) (row []);
  unwanted = replicate
      (length p.actions) false;
}

abbrev pub rows_on : Option (ArrayVec RequestRow) → List RequestRow
rows_on (Some x) = x.items
rows_on None = []

abbrev pub rows_of : Facts → ℕ → List RequestRow
rows_of f l = rows_on (slice_get f.lines l)

abbrev pub on_line : (List RequestRow → List RequestRow) → Facts → ℕ → Facts
on_line g f l = record { lines = update (λ x. row (g x.items)) f.lines l; unwanted = f.unwanted }

abbrev pub sent_row : ℤ → ℕ → RequestRow
sent_row n a = record { number = n; action = a; asked = false }

abbrev pub with_sent : Facts → ℕ → ℤ → ℕ → Facts
with_sent f l n a = on_line (λ xs. xs ++ sent_row n a ∷ []) f l

abbrev pub is_other : ℤ → RequestRow → Bool
is_other n x = not (int_eq x.number n)

abbrev pub with_gone : Facts → ℕ → ℤ → Facts
with_gone f l n = on_line (filter (is_other n)) f l

abbrev pub with_ended : Facts → ℕ → Facts
with_ended f l = on_line (λ _. []) f l

abbrev pub with_ask : ℤ → RequestRow → RequestRow
with_ask n x = record { number = x.number; action = x.action; asked = int_eq x.number n || x.asked }

abbrev pub with_asked : Facts → ℕ → ℤ → Facts
with_asked f l n = on_line (map (with_ask n)) f l

abbrev pub with_unwanted : Facts → ℕ → Facts
with_unwanted f a = record { lines = f.lines; unwanted = update (λ _. true) f.unwanted a }

abbrev pub is_marked : List Bool → ℕ → Bool
is_marked marks a = unwrap_or (slice_get marks a) false

-- it isn't wanted, and has no Cancel
abbrev pub is_due : List Bool → RequestRow → Bool
is_due marks x = is_marked marks x.action && not x.asked

-- the number of the line's earliest sent such request
abbrev pub cancel_of : Facts → ℕ → Option ℤ
cancel_of f l = option_map (λ x. x.number) (find (is_due f.unwanted) (rows_of f l))
