-- The facts that the table keeps, and what a call makes of them.
use Rattle.std.specs.Prelude.{ℕ, zero, suc, ◌+◌, ◌*◌, ◌==◌, nat_lt, Bool, true, false, ◌&&◌, ◌||◌, not, Option, Some, None, unwrap_or, option_map, option_and_then, if◌then◌else◌, List, [], ◌∷◌, ◌++◌, length, filter, map, slice_get, replicate, ℤ, pos, negsuc}
use Rattle.std.specs.List.{find}
use Rattle.run_plan.specs.declared.plan.Branch.{Branch}
use Rattle.run_plan.specs.declared.plan.Branch.TheVariants.{Local, Remote}
use Rattle.run_plan.specs.declared.plan.Kind.TheVariants as kind
use Rattle.run_plan.specs.declared.plan.Plan.{Plan}
use Rattle.run_plan.specs.declared.plan.PlanAction.{PlanAction}
use Rattle.run_plan.specs.Groups.{is_single}
use Rattle.list_lemmas.specs.Places.{update}
use Rattle.request_table.specs.declared.LineRow.{LineRow}
use Rattle.request_table.specs.declared.Matching.{Matching}
use Rattle.request_table.specs.declared.Matching.TheVariants.{Pending, Cancelled, Closed, Never}
use Rattle.request_table.specs.declared.RequestRow.{RequestRow}
use Rattle.request_table.specs.declared.Singles.{Singles}

pub record Facts : Type 0 where
  -- of each line
  pub lines : List LineRow
  -- of each action
  pub singles : List Singles

-- ---- a new table

-- whether the group is Single
abbrev pub is_single_group : Plan → Option ℕ → Bool
is_single_group p o = is_single
    (unwrap_or (option_map (λ g. g.kind)
    (option_and_then (λ k. slice_get p.groups k) o)) kind.Single)

abbrev pub singles_of : Plan → PlanAction → Singles
singles_of p x = record { local = is_single_group p x.local; remote = is_single_group p x.remote }

abbrev pub new_line : LineRow
new_line = record { last = None; places = record { items = [] } }

-- as many lines as there can be attempts
abbrev pub line_room : Plan → ℕ
line_room p = length p.actions * 2 * p.limit

abbrev pub new_facts : Plan → Facts
new_facts p =
    record { lines = replicate (line_room p) new_line; singles = map (singles_of p) p.actions }

-- ---- what is known of a line

abbrev pub is_open : RequestRow → Bool
is_open x = x.pending

abbrev pub open_on : Option LineRow → List RequestRow
open_on (Some x) = filter is_open x.places.items
open_on None = []

-- the line's requests that wait for an answer, the earliest first
abbrev pub open_of : Facts → ℕ → List RequestRow
open_of f l = open_on (slice_get f.lines l)

abbrev pub places_on : Option LineRow → List RequestRow
places_on (Some x) = x.places.items
places_on None = []

-- all that stand in the line's row: those that wait, and maybe one that was answered
abbrev pub places_of : Facts → ℕ → List RequestRow
places_of f l = places_on (slice_get f.lines l)

-- the number of its last request, or 0
abbrev pub last_of : Facts → ℕ → ℕ
last_of f l = unwrap_or (option_and_then (λ x. x.last) (slice_get f.lines l)) 0

abbrev pub single_by : Branch → Singles → Bool
single_by Local x = x.local
single_by Remote x = x.remote

-- whether the group that runs the branch is Single, as is where there is none
abbrev pub single_of : Facts → ℕ → Branch → Bool
single_of f a b = unwrap_or (option_map (single_by b) (slice_get f.singles a)) true

-- ---- Send

abbrev pub number_after : Bool → ℕ → ℕ
number_after single last = if single then 0 else last + 1

abbrev pub next_number : Facts → ℕ → ℕ → Branch → ℕ
next_number f l a b = number_after (single_of f a b) (last_of f l)

abbrev pub capacity_of : Bool → ℕ
capacity_of single = if single then 1 else 8

abbrev pub new_place : ℕ → ℕ → ℕ → RequestRow
new_place n a t = record { number = n; action = a; attempt = t; pending = true; cancelled = false }

abbrev pub sent_row : ℕ → ℕ → ℕ → LineRow → LineRow
sent_row n a t x = record {
  last = Some n;
  places = record {
    items = filter is_open x.places.items
        ++ new_place n a t ∷ [];
  };
}

abbrev pub with_send : Facts → ℕ → ℕ → Branch → ℕ → Facts
with_send f l a b t =
    record { lines = update (sent_row (next_number f l a b) a t) f.lines l; singles = f.singles }

-- ---- Answer

-- a number up to the last was sent; where the last is 0, each was
abbrev pub was_sent_by : Option ℕ → ℕ → Bool
was_sent_by None n = false
was_sent_by (Some zero) n = n == 0
was_sent_by (Some (suc last)) n = nat_lt 0 n && not (nat_lt (suc last) n)

abbrev pub waits_at : ℕ → RequestRow → Bool
waits_at n x = x.pending && (x.number == n)

abbrev pub open_matching : RequestRow → Matching
open_matching x = if x.cancelled then Cancelled x.action x.attempt else Pending x.action x.attempt

abbrev pub matching_by : Option ℕ → ℕ → Option RequestRow → Matching
matching_by last n (Some x) = open_matching x
matching_by last n None = if was_sent_by last n then Closed else Never

abbrev pub row_matching : ℕ → LineRow → Matching
row_matching n x = matching_by x.last n (find (waits_at n) x.places.items)

abbrev pub line_matching : ℤ → Option LineRow → Matching
line_matching (pos n) (Some x) = row_matching n x
line_matching (pos n) None = Never
line_matching (negsuc n) o = Never

-- pending where a request of the line with this number is, closed where one was, and never where
-- none was sent with it
abbrev pub matching_of : Facts → ℕ → ℤ → Matching
matching_of f l n = line_matching n (slice_get f.lines l)

abbrev pub with_pending : ℕ → Bool → RequestRow → RequestRow
with_pending n now x = record {
  number = x.number;
  action = x.action;
  attempt = x.attempt;
  pending = if x.number == n then now
      else x.pending;
  cancelled = x.cancelled;
}

-- it isn't pending from now on. Until the line's next answer or Send it stands there still, so that
-- it can be opened again
abbrev pub answered_row : ℕ → LineRow → LineRow
answered_row n x = record {
  last = x.last;
  places = record {
    items = map (with_pending n false)
        (filter is_open x.places.items);
  };
}

abbrev pub reopened_row : ℕ → LineRow → LineRow
reopened_row n x =
    record { last = x.last; places = record { items = map (with_pending n true) x.places.items } }

abbrev pub on_line : (ℕ → LineRow → LineRow) → Facts → ℕ → ℤ → Facts
on_line g f l (pos n) = record { lines = update (g n) f.lines l; singles = f.singles }
on_line g f l (negsuc n) = f

abbrev pub with_answer : Facts → ℕ → ℤ → Facts
with_answer f l n = on_line answered_row f l n

abbrev pub with_reopened : Facts → ℕ → ℤ → Facts
with_reopened f l n = on_line reopened_row f l n

-- ---- Wrote, Cancel, Ended

abbrev pub unwritten_row : ℕ → LineRow → LineRow
unwritten_row n x = record {
  last = x.last;
  places = record {
    items = filter
        (λ y. not (y.number == n)) x.places.items;
  };
}

abbrev pub with_unwritten : Facts → ℕ → ℤ → Facts
with_unwritten f l n = on_line unwritten_row f l n

abbrev pub with_cancel : ℕ → RequestRow → RequestRow
with_cancel n x = record {
  number = x.number;
  action = x.action;
  attempt = x.attempt;
  pending = x.pending;
  cancelled =
      (x.number == n) || x.cancelled;
}

abbrev pub cancelled_row : ℕ → LineRow → LineRow
cancelled_row n x =
    record { last = x.last; places = record { items = map (with_cancel n) x.places.items } }

abbrev pub with_cancelled : Facts → ℕ → ℤ → Facts
with_cancelled f l n = on_line cancelled_row f l n

abbrev pub ended_row : LineRow → LineRow
ended_row x = record { last = x.last; places = record { items = [] } }

abbrev pub with_ended : Facts → ℕ → Facts
with_ended f l = record { lines = update ended_row f.lines l; singles = f.singles }
