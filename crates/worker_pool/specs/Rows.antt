-- What the table keeps of lines and berths, and what a call makes of it.
use Rattle.std.specs.Prelude.{ℕ, ◌+◌, ◌-◌, ◌*◌, Bool, true, false, ◌&&◌, not, Option, Some, None, unwrap_or, option_map, option_and_then, if◌then◌else◌, List, [], ◌∷◌, ◌++◌, length, slice_get, replicate}
use Rattle.run_plan.specs.declared.plan.Kind.{Kind}
use Rattle.run_plan.specs.declared.plan.Plan.{Plan}
use Rattle.run_plan.specs.Groups.{capacity}
use Rattle.list_lemmas.specs.Places.{update}
use Rattle.worker_pool.specs.declared.LineRow.{LineRow}

pub record Facts : Type 0 where
  -- of each line, in the order of their numbers
  pub lines : List LineRow
  -- of each berth its last line
  pub seats : List (Option ℕ)
  -- how many lines there may be
  pub room : ℕ

-- ---- a new table

-- each attempt of each branch may have a line of its own
abbrev pub room_of : Plan → ℕ
room_of p = 2 * length p.actions * p.limit

-- of so many berths, none of which has a line
abbrev pub new_facts : Plan → ℕ → Facts
new_facts p seats = record { lines = []; seats = replicate seats None; room = room_of p }

-- ---- a new line

abbrev pub new_line : ℕ → LineRow
new_line c = record {
  capacity = c;
  started = false;
  broken = false;
  ended = false;
  killed = false;
  bound = true;
  pending = 0;
}

abbrev pub set_last : ℕ → Option ℕ → Option ℕ
set_last l o = Some l

-- the next line, of this kind, which is the berth's last, with a bound branch
abbrev pub with_launch : Facts → ℕ → Kind → Facts
with_launch f w k = record {
  lines = f.lines ++ new_line (capacity k) ∷ [];
  seats = update (set_last (length f.lines)) f.seats w;
  room = f.room;
}

-- ---- one line changes

abbrev pub change : Facts → ℕ → (LineRow → LineRow) → Facts
change f l g = record { lines = update g f.lines l; seats = f.seats; room = f.room }

abbrev pub set_started : LineRow → LineRow
set_started x = record x { started = true }

abbrev pub set_broken : LineRow → LineRow
set_broken x = record x { broken = true }

-- a line that has Ended broke, and nothing is pending on it or bound to it
abbrev pub set_ended : LineRow → LineRow
set_ended x = record x { broken = true; ended = true; bound = false; pending = 0 }

abbrev pub set_killed : LineRow → LineRow
set_killed x = record x { killed = true }

abbrev pub set_unbound : LineRow → LineRow
set_unbound x = record x { bound = false }

-- one pending request more
abbrev pub one_more : LineRow → LineRow
one_more x = record x { pending = x.pending + 1 }

-- one fewer
abbrev pub one_fewer : LineRow → LineRow
one_fewer x = record x { pending = x.pending - 1 }

-- nothing is bound to these lines any longer
abbrev pub with_unbound : Facts → List ℕ → Facts
with_unbound f [] = f
with_unbound f (l ∷ ls) = with_unbound (change f l set_unbound) ls

-- ---- what is read

abbrev pub pending_of : Facts → ℕ → ℕ
pending_of f l = unwrap_or (option_map (λ x. x.pending) (slice_get f.lines l)) 0

abbrev pub capacity_of : Facts → ℕ → ℕ
capacity_of f l = unwrap_or (option_map (λ x. x.capacity) (slice_get f.lines l)) 0

-- the berth's last line
abbrev pub last_of : Facts → ℕ → Option ℕ
last_of f w = unwrap_or (slice_get f.seats w) None

abbrev pub is_live_row : LineRow → Bool
is_live_row x = x.started && (not x.broken && not x.killed)

abbrev pub if_live : Facts → ℕ → Option ℕ
if_live f l = option_and_then (λ x. if is_live_row x then Some l else None) (slice_get f.lines l)

-- the berth's last line, where it is live
abbrev pub live_of : Facts → ℕ → Option ℕ
live_of f w = option_and_then (if_live f) (last_of f w)

-- the capacity less the pending requests and the bound branch
abbrev pub free_in : LineRow → ℕ
free_in x = x.capacity - (x.pending + (if x.bound then 1 else 0))

abbrev pub free_of : Facts → ℕ → ℕ
free_of f l = unwrap_or (option_map free_in (slice_get f.lines l)) 0
