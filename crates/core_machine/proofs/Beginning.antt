-- What lies on the shelf of a new bench.
use Rattle.std.proofs.Common.{◌≡◌, ℕ, zero, suc, ◌<◌, List, [], ◌∷◌, length, map, replicate, Option, Some, None, refl, sym, ◌∙◌, subst, arith}
use Rattle.std.specs.Prelude.{slice_get}
use Rattle.std.proofs.lemmas.List.{length-map, length-replicate, get_or-replicate}
use Rattle.outside.specs.Told.{ChildTold, TapTold, PlaceTold}
use Rattle.core_contract.specs.Discipline.{Discipline}
use Rattle.core_contract.specs.Shelf.{Fresh}
use Rattle.core_machine.specs.Slots.{Hold, lies_in}
use Rattle.core_machine.specs.Objects.{AreFresh}
use Rattle.core_machine.specs.Bench.{IsOf, IsInSpot, IsChildOf, IsTapOf, IsPlaceOf, Lies}

-- in each of so many new slots lies nothing
nothing_lies : {X : Type 0} (Of : ℕ → X → Type 0) (n : ℕ) (slots : List (Option X))
    → slots ≡ replicate n None → Hold n (λ i o. IsOf Of None o) slots
nothing_lies {X} Of n slots e =
    subst (λ (xs : List (Option X)). Hold n (λ i (o : Option X). IsOf Of None o) xs)
    (sym e) record {
      as_many = length-replicate n None;
      each = λ i lt. get_or-replicate n i None None lt;
    }

lies_full : {X : Type 0} (xs : List X) (i : ℕ) → lies_in (map Some xs) i ≡ slice_get xs i
lies_full [] i = refl
lies_full (x ∷ xs) zero = refl
lies_full (x ∷ xs) (suc i) = lies_full xs i

module _ {P : Type 0} (told : P → PlaceTold) (q : Discipline) (n : ℕ)
    (places : List P) (fresh : AreFresh told n places) where
  each_lies : (i : ℕ) (o : Option P) → slice_get places i ≡ o → i < length places
      → IsInSpot (IsPlaceOf told q i) Fresh o
  each_lies i (Some p) at lt =
      record { of_action = fresh.numbers i p at; wrote = fresh.unwritten i p at }
  each_lies i None at lt = absurd (none_within places i lt at)
    where
      none_within : (xs : List P) (i : ℕ) → i < length xs → slice_get xs i ≡ None → ⊥
      none_within [] i lt e = absurd (omega arith)
      none_within (x ∷ xs) zero lt e = absurd (cc)
      none_within (x ∷ xs) (suc i) lt e = none_within xs i (omega arith) e

  places_lie : (slots : List (Option P)) → slots ≡ map Some places
      → Hold n (λ i o. IsInSpot (IsPlaceOf told q i) Fresh o) slots
  places_lie slots e = subst (λ (xs : List (Option P)).
      Hold n (λ i (o : Option P). IsInSpot (IsPlaceOf told q i) Fresh o) xs) (sym e) record {
        as_many = length-map places Some ∙ fresh.as_many;
        each = λ i lt. subst (IsInSpot (IsPlaceOf told q i) Fresh) (sym (lies_full places i))
            (each_lies i (slice_get places i) refl
            (subst (λ (k : ℕ). i < k) (sym fresh.as_many) lt));
      }

-- a new shelf lies as the empty history says
pub begins : {K T P : Type 0} (child : K → ChildTold) (tap : T → TapTold) (place : P → PlaceTold)
    (q : Discipline) (children : List (Option K))
    (taps : List (Option T)) (slots : List (Option P)) (places : List P)
    → AreFresh place (length q.plan.actions) places → children ≡ replicate q.seats None
    → taps ≡ replicate q.seats None → slots ≡ map Some places
    → Lies child tap place q [] children taps slots
begins child tap place q children taps slots places fresh cs ts ps = record {
  children = nothing_lies (IsChildOf child) q.seats children cs;
  taps = nothing_lies (IsTapOf tap) q.seats taps ts;
  places = places_lie place q (length q.plan.actions) places fresh slots ps;
}
