-- One more berth or place behind those that are numbered in their order.
use Rattle.std.proofs.Common.{◌≡◌, ◌⊎◌, ℕ, ◌+◌, zero, suc, List, [], ◌∷◌, ◌++◌, length, map, Option, Some, None, inl, inr, refl, ap, sym, subst, ◌∙◌, slice_get}
use Rattle.std.specs.Prelude.{option_map}
use Rattle.std.proofs.lemmas.List.{length-append, map-append}
use Rattle.std.proofs.lemmas.Option.{slice_get-map}
use Rattle.outside.specs.Lists.{Tells}
use Rattle.outside.specs.Told.{BerthTold, PlaceTold}
use Rattle.core_machine.specs.Objects.{AreFresh}
use Rattle.worker_run.specs.Lanes.{AreNewBerths, AreNewPlaces, IsNewBerth, IsNewPlace}

-- what stands in a list with one more is one of the old, or the new one
found : {X : Type 0} (xs : List X) (x : X) (a : ℕ) (p : X) → slice_get (xs ++ x ∷ []) a ≡ Some p
    → (slice_get xs a ≡ Some p) ⊎ ((a ≡ length xs) × (x ≡ p))
found [] x zero p e = inr (refl, cc)
found [] x (suc a) p e = absurd (cc)
found (y ∷ ys) x zero p e = inl e
found (y ∷ ys) x (suc a) p e = behind (found ys x a p e)
  where
    behind : (slice_get ys a ≡ Some p) ⊎ ((a ≡ length ys) × (x ≡ p))
        → (slice_get (y ∷ ys) (suc a) ≡ Some p) ⊎ ((suc a ≡ suc (length ys)) × (x ≡ p))
    behind (inl h) = inl h
    behind (inr h) = inr (ap suc h.0, h.1)

pub no_berths : AreNewBerths 0 []
no_berths = record { as_many = refl; each = λ w b e. absurd (cc) }

one_more_told : (n : ℕ) (bs : List BerthTold) (b : BerthTold) → AreNewBerths n bs
    → b.number ≡ n → Tells b.log [] → b.faults ≡ 0 → AreNewBerths (n + 1) (bs ++ b ∷ [])
one_more_told n bs b were number calls faults = record {
  as_many = length-append bs (b ∷ []) ∙ ap (λ (m : ℕ). m + 1) were.as_many;
  each = λ w x e. by w x (found bs b w x e);
}
  where
    by : (w : ℕ) (x : BerthTold) → (slice_get bs w ≡ Some x) ⊎ ((w ≡ length bs) × (b ≡ x))
        → IsNewBerth w x
    by w x (inl h) = were.each w x h
    by w x (inr h) = subst (λ y. IsNewBerth w y) h.1 (record {
      of_number = number ∙ (sym were.as_many ∙ sym h.0);
      no_calls = calls;
      no_faults = faults;
    })

pub one_more_berth : {B : Type 0} (told : B → BerthTold) (n : ℕ) (bs : List B) (b : B)
    → AreNewBerths n (map told bs) → (told b).number ≡ n → Tells (told b).log []
    → (told b).faults ≡ 0 → AreNewBerths (n + 1) (map told (bs ++ b ∷ []))
one_more_berth told n bs b were number calls faults =
    subst (λ xs. AreNewBerths (n + 1) xs) (sym (map-append told bs (b ∷ [])))
    (one_more_told n (map told bs) (told b) were number calls faults)

module _ {P : Type 0} (told : P → PlaceTold) where
  pub no_places : AreFresh told 0 []
  no_places = record {
    as_many = refl;
    numbers = λ a p e. absurd (cc);
    unwritten = λ a p e. absurd (cc);
  }

  pub one_more_place : (n : ℕ) (ps : List P) (p : P) → AreFresh told n ps
      → (told p).number ≡ n → Tells (told p).log [] → AreFresh told (n + 1) (ps ++ p ∷ [])
  one_more_place n ps p were number written = record {
    as_many = length-append ps (p ∷ []) ∙ ap (λ (m : ℕ). m + 1) were.as_many;
    numbers = λ a x e. number_by a x (found ps p a x e);
    unwritten = λ a x e. written_by a x (found ps p a x e);
  }
    where
      number_by : (a : ℕ) (x : P) → (slice_get ps a ≡ Some x) ⊎ ((a ≡ length ps) × (p ≡ x))
          → (told x).number ≡ a
      number_by a x (inl h) = were.numbers a x h
      number_by a x (inr h) = ap (λ (y : P). (told y).number) (sym h.1)
          ∙ (number ∙ (sym were.as_many ∙ sym h.0))

      written_by : (a : ℕ) (x : P) → (slice_get ps a ≡ Some x) ⊎ ((a ≡ length ps) × (p ≡ x))
          → Tells (told x).log []
      written_by a x (inl h) = were.unwritten a x h
      written_by a x (inr h) = subst (λ (y : P). Tells (told y).log []) h.1 written

  from_some : (o : Option P) (p : PlaceTold) → option_map told o ≡ Some p
      → (x : P) × (o ≡ Some x) × (told x ≡ p)
  from_some None p e = absurd (cc)
  from_some (Some x) p e = (x, refl, let q : told x ≡ p = cc in q)

  pub new_places : (n : ℕ) (ps : List P) → AreFresh told n ps
      → AreNewPlaces (length (map told ps)) (map told ps)
  new_places n ps were = record {
    as_many = refl;
    each = λ a p e. let x = from_some (slice_get ps a) p (sym (slice_get-map told ps a) ∙ e) in
        subst (λ (t : PlaceTold). IsNewPlace a t) x.2
        (record { of_number = were.numbers a x.0 x.1; unwritten = were.unwritten a x.0 x.1 });
  }

pub new_berths : (n : ℕ) (bs : List BerthTold) → AreNewBerths n bs → AreNewBerths (length bs) bs
new_berths n bs were = record { as_many = refl; each = were.each }
