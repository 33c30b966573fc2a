-- What the tables' own calls make of their rows.
use Rattle.std.proofs.Common.{◌≡◌, ℕ, ◌<◌, List, length, get_or, set, ap, ◌∙◌}
use Rattle.arrayvec.specs.ArrayVec.{ArrayVec}
use Rattle.list_lemmas.specs.Places.{update}
use Rattle.list_lemmas.proofs.Updates.{set-update}
use Rattle.core_tables.specs.declared.matches.Match.{Match}
use Rattle.core_tables.specs.Matches.{on_row}

-- a row changed
pub written : {X : Type 0} (g : X → X) (xs ys : List X) (i : ℕ) (x r : X) → xs ≡ ys → i < length ys
    → x ≡ get_or xs i x → r ≡ g x → set xs i r ≡ update g ys i
written g xs ys i x r e lt is made =
    let within : i < length xs = rw e lt in
    ap (set xs i) made ∙ ap (λ y. set xs i (g y)) is ∙ set-update g xs i x within
    ∙ ap (λ zs. update g zs i) e

-- a row replaced
pub replaced : {X : Type 0} (r : X) (xs ys : List X) (i : ℕ) → xs ≡ ys → i < length ys
    → set xs i r ≡ update (λ _. r) ys i
replaced r xs ys i e lt =
    let within : i < length xs = rw e lt in
    set-update (λ _. r) xs i r within ∙ ap (λ zs. update (λ _. r) zs i) e

abbrev row : List Match → ArrayVec Match
row xs = record { items = xs }

-- the matches of a berth changed
pub row_written : (g : List Match → List Match) (xs ys : List (ArrayVec Match)) (i : ℕ)
    (x r : ArrayVec Match) → xs ≡ ys → i < length ys → x ≡ get_or xs i x → r.items ≡ g x.items
    → set xs i r ≡ update (on_row g) ys i
row_written g xs ys i x r e lt is made = written (on_row g) xs ys i x r e lt is (ap row made)
