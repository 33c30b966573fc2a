-- What unbinding keeps.
use Rattle.std.proofs.Common.{◌≡◌, ℕ, zero, suc, Bool, true, false, cond, List, length, Option, Some, None, refl, ap, ◌∙◌}
use Rattle.request_table.proofs.Lists.{update_length}
use Rattle.worker_pool.specs.Rows.{Facts, set_unbound, last_of}
use Rattle.core_tables.specs.declared.last.LastLine.{LastLine}
use Rattle.core_state.specs.Machine.{unbound_line, unbound_at, unbound_for, is_of_action, row_or_none}
use Rattle.std.specs.Prelude.{slice_get}

pub record Keeps (f g : Facts) : Type 0 where
  pub seats : g.seats ≡ f.seats
  pub lines : length g.lines ≡ length f.lines

line_keeps : (f : Facts) (o : Option ℕ) → Keeps f (unbound_line f o)
line_keeps f None = record { seats = refl; lines = refl }
line_keeps f (Some l) = record { seats = refl; lines = update_length set_unbound f.lines l }

at_keeps : (f : Facts) (x : LastLine) (w a : ℕ) → Keeps f (unbound_at f x w a)
at_keeps f x w a = by (is_of_action x.attempt a)
  where
    by : (b : Bool) → Keeps f (cond b (unbound_line f (last_of f w)) f)
    by true = line_keeps f (last_of f w)
    by false = record { seats = refl; lines = refl }

pub for_keeps : (f : Facts) (last : List LastLine) (a n : ℕ) → Keeps f (unbound_for f last a n)
for_keeps f last a zero = record { seats = refl; lines = refl }
for_keeps f last a (suc n) =
    let before = for_keeps f last a n in
    let now = at_keeps (unbound_for f last a n) (row_or_none (slice_get last n)) n a in
    record { seats = now.seats ∙ before.seats; lines = now.lines ∙ before.lines }

pub last_kept : (f g : Facts) (v : ℕ) → Keeps f g → last_of g v ≡ last_of f v
last_kept f g v k = ap (λ xs. last_of (record { lines = f.lines; seats = xs; room = f.room }) v)
    k.seats
