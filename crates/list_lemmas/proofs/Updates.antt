-- What stands at a place after a change, and in a list of equal rows.
use Rattle.std.proofs.Common.{◌≡◌, ◌<◌, ◌≤◌, length, get_or, set, ap, ℕ, zero, suc, ◌==◌, nat_lt, eqb, true, false, cond, List, [], ◌∷◌, Option, Some, None, option_map, refl, arith}
use Rattle.std.specs.Prelude.{slice_get, replicate}
use Rattle.std.proofs.lemmas.Bool.{ne_eqb, lt-ltb, le-ltb}
use Prim.Native.Nat.compare
use Rattle.list_lemmas.specs.Places.{update}

pub get_update : {X : Type 0} (g : X → X) (xs : List X) (k l : ℕ) → slice_get (update g xs k) l ≡ cond (k == l) (option_map g (slice_get xs l)) (slice_get xs l)
get_update {X} g [] k l = elim (k == l) as (λ b. ◌≡◌ {A = Option X} None (cond b None None)) [ true ↦ refl | false ↦ refl ]
get_update g (x ∷ xs) zero zero = refl
get_update g (x ∷ xs) zero (suc l) = let apart : eqb 0 (suc l) ≡ false = ne_eqb 0 (suc l) (λ e. omega arith) in rw apart
get_update g (x ∷ xs) (suc k) zero = let apart : eqb (suc k) 0 ≡ false = ne_eqb (suc k) 0 (λ e. omega arith) in rw apart
get_update g (x ∷ xs) (suc k) (suc l) = rw (compare.suc-suc) (get_update g xs k l)

pub get_replicate : {X : Type 0} (x : X) (n a : ℕ) → slice_get (replicate n x) a ≡ cond (nat_lt a n) (Some x) None
get_replicate x zero a = let past : nat_lt a 0 ≡ false = le-ltb a 0 (omega arith) in rw past
get_replicate x (suc n) zero = let within : nat_lt 0 (suc n) ≡ true = lt-ltb 0 (suc n) (omega arith) in rw within
get_replicate x (suc n) (suc a) = rw (compare.suc-suc) (get_replicate x n a)

pub set-update : {X : Type 0} (g : X → X) (xs : List X) (i : ℕ) (d : X) → i < length xs → set xs i (g (get_or xs i d)) ≡ update g xs i
set-update g [] i d lt = absurd (omega arith)
set-update g (y ∷ ys) zero d lt = refl
set-update {X} g (y ∷ ys) (suc i) d lt = ap (λ (zs : List X). y ∷ zs) (set-update g ys i d (omega arith))

pub update_past : {X : Type 0} (g : X → X) (xs : List X) (i : ℕ) → length xs ≤ i → xs ≡ update g xs i
update_past g [] i le = refl
update_past g (y ∷ ys) zero le = absurd (omega arith)
update_past {X} g (y ∷ ys) (suc i) le = ap (λ (zs : List X). y ∷ zs) (update_past g ys i (omega arith))
