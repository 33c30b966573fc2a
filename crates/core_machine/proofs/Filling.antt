-- What lies in slots after one of them was filled or emptied.
use Rattle.std.proofs.Common.{◌≡◌, ◌≢◌, ℕ, ◌<◌, List, length, set, Option, None, sym, ◌∙◌, subst, length-set}
use Rattle.std.proofs.lemmas.List.{get_or-set_same, get_or-set_other}
use mathlib.Core.Logic.{dite}
use native.Mathlib.Decide.{ℕ_discrete}
use Rattle.core_machine.specs.Slots.{Hold, lies_in}

-- AT says of each slot what it is to have, MADE what it is to have next, by what it had
module _ {S X : Type 0} (Has : ℕ → S → Option X → Type 0) (n : ℕ) (at made : ℕ → S)
    (next : ℕ → S → S) (moved : (i : ℕ) → made i ≡ next i (at i)) where
  -- no slot is to have anything else
  pub stay : (slots : List (Option X)) → ((i : ℕ) (s : S) → next i s ≡ s)
      → Hold n (λ i. Has i (at i)) slots → Hold n (λ i. Has i (made i)) slots
  stay slots same h = record {
    as_many = h.as_many;
    each = λ i lt. subst (λ (s : S). Has i s (lies_in slots i)) (sym (moved i ∙ same i (at i)))
        (h.each i lt);
  }

  -- this one slot is
  pub fill : (slots : List (Option X)) (i : ℕ) (o : Option X) → (i < n → Has i (next i (at i)) o)
      → ((j : ℕ) (s : S) → i ≢ j → next j s ≡ s)
      → Hold n (λ i. Has i (at i)) slots → Hold n (λ i. Has i (made i)) (set slots i o)
  fill slots i o here apart h = record {
    as_many = length-set slots i o ∙ h.as_many;
    each = λ j lt. dite (ℕ_discrete i j)
        (λ same. subst (λ (k : ℕ). Has k (made k) (lies_in (set slots i o) k)) same (
        let within : i < n = subst (λ (k : ℕ). k < n) (sym same) lt in
        let fits : i < length slots = subst (λ (k : ℕ). i < k) (sym h.as_many) within in
        subst (Has i (made i)) (sym (get_or-set_same slots i o None fits))
        (subst (λ (s : S). Has i s o) (sym (moved i)) (here within))))
        (λ other. subst (Has j (made j))
        (sym (get_or-set_other slots i j o None (λ e. other (sym e))))
        (subst (λ (s : S). Has j s (lies_in slots j)) (sym (moved j ∙ apart j (at j) other))
        (h.each j lt)));
  }
