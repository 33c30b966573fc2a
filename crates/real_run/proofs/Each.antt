-- Facts of each element of a list, and of a value that may be there.
use Rattle.std.proofs.Common.{◌≡◌, ℕ, zero, suc, List, [], ◌∷◌, slice_get, Option, Some, None, IfSome, ap, subst}
use Rattle.std.specs.Prelude.{IsSome}
use Rattle.std.specs.List.{AllByRecursion}

-- it is there, and it is this one
pub it_is : {A : Type 0} (a : A) (o : Option A) → IfSome o (λ y. y ≡ a) → IsSome o → o ≡ Some a
it_is a (Some y) same there = ap Some same
it_is a None same there = absurd (cc)

pub where_there : {A : Type 0} (P : A → Type 0) (o : Option A) (a : A) → IfSome o P → o ≡ Some a → P a
where_there {A = A} P o a holds is = subst (λ (x : Option A). IfSome x P) is holds

pub if_some : {A : Type 0} {P Q : A → Type 0} (o : Option A) → IfSome o P → ((x : A) → P x → Q x) → IfSome o Q
if_some None p f = tt
if_some (Some x) p f = f x p

pub at_index : {A : Type 0} (P : A → Type 0) (xs : List A) → AllByRecursion P xs → (i : ℕ) (x : A)
    → slice_get xs i ≡ Some x → P x
at_index P [] each i x is = absurd (cc)
at_index P (y ∷ ys) each zero x is = subst P (let e : y ≡ x = cc in e) each.0
at_index P (y ∷ ys) each (suc i) x is = at_index P ys each.1 i x is

-- what holds of each by two facts of each
pub each_by : {A : Type 0} {P Q R : A → Type 0} → ((x : A) → P x → Q x → R x) → (xs : List A)
    → AllByRecursion P xs → AllByRecursion Q xs → AllByRecursion R xs
each_by f [] p q = tt
each_by f (x ∷ xs) p q = (f x p.0 q.0, each_by f xs p.1 q.1)
