-- The first fault of a list, found element by element.
use Rattle.std.proofs.Common.{◌≡◌, ℕ, ◌+◌, ◌<◌, List, [], ◌∷◌, length, drop, get_or, map, Ok, Err, refl, sym, ap, subst, ◌∙◌}
use Rattle.std.proofs.lemmas.List.{at_drop_more}
use Rattle.list_actions.specs.declared.faults.ListRefusal.{ListRefusal}
use Rattle.list_actions.specs.declared.faults.ListRefusal.TheVariants as refusal
use Rattle.list_actions.specs.Answers.{Check, Refuses, first}

-- what is refused first is refused
pub refused_first : (r : ListRefusal) (check : Check) (later : List Check) → Refuses r check → Refuses r (first (check ∷ later))
refused_first (refusal.Fault f) check later h = ap (λ c. first (c ∷ later)) h
refused_first refusal.NoMemory check later h = tt

-- what is refused after checks without a fault is refused
pub refused_next : (r : ListRefusal) (check : Check) (later : List Check) → check ≡ Ok tt → Refuses r (first later) → Refuses r (first (check ∷ later))
refused_next r check later fine h = subst (λ c. Refuses r (first (c ∷ later))) (sym fine) h

module _ {A : Type 0} (f : A → Check) where
  pub first_at : (xs : List A) (i : ℕ) (x : A) → first (map f xs) ≡ first (map f (drop i xs)) → i < length xs → x ≡ get_or xs i x → first (map f xs) ≡ first (f x ∷ map f (drop (i + 1) xs))
  first_at xs i x h below is = h ∙ at_drop_more (λ ys. first (map f ys)) xs i x below ∙ ap (λ v. first (f v ∷ map f (drop (i + 1) xs))) (sym is)

  pub first_refused : (xs : List A) (i : ℕ) (x : A) (r : ListRefusal) → first (map f xs) ≡ first (map f (drop i xs)) → i < length xs → x ≡ get_or xs i x → Refuses r (f x) → Refuses r (first (map f xs))
  first_refused xs i x r h below is refused =
      subst (λ c. Refuses r c) (sym (first_at xs i x h below is)) (refused_first r (f x) (map f (drop (i + 1) xs)) refused)

pub first_one : (check : Check) → first (check ∷ []) ≡ check
first_one (Ok fine) = refl
first_one (Err f) = refl

pub first_passed : (check last : Check) → check ≡ Ok tt → first (check ∷ last ∷ []) ≡ last
first_passed check last fine = ap (λ c. first (c ∷ last ∷ [])) fine ∙ first_one last
