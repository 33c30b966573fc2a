-- What stands in a list.
use Rattle.std.proofs.Common.{◌≡◌, Bool, true, cond, List, [], ◌∷◌, Option, Some, None, ◌⊎◌, inl, inr, refl, ap, sym, subst, ◌∙◌}
use Rattle.std.specs.List.{filter, list_any}
use Rattle.std.proofs.lemmas.Bool.{or_cases, or_left, or_right}
use Rattle.list_lemmas.specs.Options.{or_else, and_more}
use Rattle.exec_journal.specs.Rules.{oldest}
use Rattle.exec_journal.proofs.Histories.{AllOf}
use Rattle.exec_journal.proofs.Ruled.{by_bool}

abbrev pub Member : {X : Type 0} → X → List X → Type 0
Member x [] = ⊥
Member x (y ∷ ys) = (x ≡ y) ⊎ Member x ys

module _ {X : Type 0} where
  pub any_member : (f : X → Bool) (xs : List X) → list_any f xs ≡ true
      → (x : X) × Member x xs × (f x ≡ true)
  any_member f [] h = absurd (cc)
  any_member f (x ∷ xs) h = elim (or_cases (f x) _ h) [
    | inl here ↦ (x, inl refl, here)
    | inr more ↦ (let found = any_member f xs more in (found.0, inr found.1, found.2))
  ]

  pub member_any : (f : X → Bool) (x : X) (xs : List X) → Member x xs → f x ≡ true
      → list_any f xs ≡ true
  member_any f x [] m h = absurd m
  member_any f x (y ∷ ys) (inl same) h = or_left (f y) _ (ap f (sym same) ∙ h)
  member_any f x (y ∷ ys) (inr more) h = or_right (f y) _ (member_any f x ys more h)

  pub all_member : (P : X → Type 0) (x : X) (xs : List X) → AllOf P xs → Member x xs → P x
  all_member P x [] all m = absurd m
  all_member P x (y ∷ ys) all (inl same) = subst P (sym same) all.0
  all_member P x (y ∷ ys) all (inr more) = all_member P x ys all.1 more

  -- the oldest of those that pass a test stands there, and passes it
  pub oldest_member : (f : X → Bool) (xs : List X) (x : X) → oldest (filter f xs) ≡ Some x
      → Member x xs
  oldest_member f [] x h = absurd (cc)
  oldest_member f (y ∷ ys) x h =
      by_bool (f y) (λ b. oldest (cond b (y ∷ filter f ys) (filter f ys)) ≡ Some x
      → Member x (y ∷ ys))
      (λ _ k. last (oldest (filter f ys)) (λ e. oldest_member f ys x e) k)
      (λ _ k. inr (oldest_member f ys x k)) h
    where
      last : (o : Option X) → (o ≡ Some x → Member x ys) → or_else o (Some y) ≡ Some x
          → Member x (y ∷ ys)
      last (Some z) rest k = inr (rest k)
      last None rest k = let same : y ≡ x = cc in inl (sym same)

  pub one_more : (o : Option X) (x : X) (xs : List X) → Member x (and_more o xs)
      → (o ≡ Some x) ⊎ Member x xs
  one_more None x xs m = inr m
  one_more (Some y) x xs (inl same) = inl (ap Some (sym same))
  one_more (Some y) x xs (inr more) = inr more

  pub more_new : (o : Option X) (x : X) (xs : List X) → o ≡ Some x → Member x (and_more o xs)
  more_new None x xs h = absurd (cc)
  more_new (Some y) x xs h = let same : y ≡ x = cc in inl (sym same)

  pub more_old : (o : Option X) (x : X) (xs : List X) → Member x xs → Member x (and_more o xs)
  more_old None x xs m = m
  more_old (Some y) x xs m = inr m
