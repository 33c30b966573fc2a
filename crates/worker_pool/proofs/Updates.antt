-- What the table's own calls make of its facts.
use Rattle.std.proofs.Common.{◌≡◌, ℕ, ◌<◌, List, [], ◌∷◌, ◌++◌, length, get_or, set, Option, Some, option_map, unwrap_or, refl, ap, sym, ◌∙◌}
use Rattle.std.proofs.lemmas.Option.{slice_get_read}
use Rattle.run_plan.specs.declared.plan.Kind.{Kind}
use Rattle.run_plan.specs.Groups.{capacity}
use Rattle.list_lemmas.specs.Places.{update}
use Rattle.list_lemmas.proofs.Updates.{set-update}
use Rattle.worker_pool.specs.declared.LineRow.{LineRow}
use Rattle.worker_pool.specs.Rows.{Facts, new_line, set_last, with_launch, change, pending_of, capacity_of}

place : {X : Type 0} (g : X → X) (xs : List X) (i : ℕ) (x : X) → i < length xs → x ≡ get_or xs i x → set xs i (g x) ≡ update g xs i
place g xs i x lt is = ap (λ y. set xs i (g y)) is ∙ set-update g xs i x lt

-- a write to a line
pub written : (g : LineRow → LineRow) (f f' : Facts) (l : ℕ) (x : LineRow) → f ≡ f' → l < length f'.lines → x ≡ get_or f.lines l x
    → record { lines = set f.lines l (g x); seats = f.seats; room = f.room } ≡ change f' l g
written g f f' l x e lt is =
    let within : l < length f.lines = rw e lt in
    ap (λ ls. record { lines = ls; seats = f.seats; room = f.room }) (place g f.lines l x within is) ∙ ap (λ h. change h l g) e

pub pending_read : (f f' : Facts) (l : ℕ) (x : LineRow) → f ≡ f' → l < length f'.lines → x ≡ get_or f.lines l x → pending_of f' l ≡ x.pending
pending_read f f' l x e lt is =
    let within : l < length f.lines = rw e lt in
    ap (λ h. pending_of h l) (sym e) ∙ ap (λ o. unwrap_or (option_map (λ y. y.pending) o) 0) (slice_get_read f.lines (length f.lines) l x refl within is)

pub capacity_read : (f f' : Facts) (l : ℕ) (x : LineRow) → f ≡ f' → l < length f'.lines → x ≡ get_or f.lines l x → capacity_of f' l ≡ x.capacity
capacity_read f f' l x e lt is =
    let within : l < length f.lines = rw e lt in
    ap (λ h. capacity_of h l) (sym e) ∙ ap (λ o. unwrap_or (option_map (λ y. y.capacity) o) 0) (slice_get_read f.lines (length f.lines) l x refl within is)

-- a new line, the last of the berth w
pub launched : (f f' : Facts) (w n : ℕ) (k : Kind) (o : Option ℕ) (lines : List LineRow) (row : LineRow) (room : ℕ) → f ≡ f' → w < length f'.seats → o ≡ get_or f.seats w o
    → n ≡ length f.lines → row ≡ new_line (capacity k) → lines ≡ f.lines ++ row ∷ [] → room ≡ f.room
    → record { lines = lines; seats = set f.seats w (Some n); room = room } ≡ with_launch f' w k
launched f f' w n k o lines row room e lt is number made more same =
    let within : w < length f.seats = rw e lt in
    let rows : lines ≡ f.lines ++ new_line (capacity k) ∷ [] = more ∙ ap (λ r. f.lines ++ r ∷ []) made in
    let seats : set f.seats w (Some n) ≡ update (set_last (length f.lines)) f.seats w = ap (λ m. set f.seats w (Some m)) number ∙ place (set_last (length f.lines)) f.seats w o within is in
    let made : record { lines = lines; seats = set f.seats w (Some n); room = room } ≡ with_launch f w k = λ i. record { lines = rows i; seats = seats i; room = same i } in
    made ∙ ap (λ h. with_launch h w k) e
