-- One more element of a list has been mapped.
use Rattle.std.proofs.Common.{◌≡◌, ℕ, zero, suc, ◌+◌, ◌<◌, List, [], ◌∷◌, ◌++◌, length, drop, get_or, map, Some, sym, ap, ◌∙◌, append_assoc, arith}
use Rattle.std.specs.Prelude.{slice_get}
use Rattle.std.proofs.lemmas.List.{at_drop_more}

pub mapped_more : {A B : Type 0} (f : A → B) (xs : List A) (i : ℕ) (x : A) (done after all : List B) → i < length xs → x ≡ get_or xs i x
    → done ++ map f (drop i xs) ≡ all → after ≡ done ++ f x ∷ [] → after ++ map f (drop (i + 1) xs) ≡ all
mapped_more f xs i x done after all below is h e =
    let rest = map f (drop (i + 1) xs) in
    ap (λ o. o ++ rest) e ∙ append_assoc done (f x ∷ []) rest
    ∙ ap (λ t. done ++ t) (sym (at_drop_more (map f) xs i x below ∙ ap (λ v. f v ∷ rest) (sym is))) ∙ h

-- the element at its place among those that a list was mapped to
pub mapped_at : {A B : Type 0} (f : A → B) (xs : List A) (i : ℕ) (x : A) (y : B) → i < length xs → x ≡ get_or xs i x
    → slice_get (map f xs) i ≡ Some y → y ≡ f x
mapped_at f [] i x y below is at = absurd (omega arith)
mapped_at f (z ∷ xs) zero x y below is at = let same : f z ≡ y = cc in sym same ∙ ap f (sym is)
mapped_at f (z ∷ xs) (suc i) x y below is at = mapped_at f xs i x y (omega arith) is at
