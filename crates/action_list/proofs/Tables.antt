-- What a set of borrowed keys says of their bytes.
use Rattle.std.proofs.Common.{◌≡◌, ℕ, suc, ◌+◌, ◌<◌, Bool, true, false, cond, not, ◌||◌, List, [], ◌∷◌, ◌++◌, length, map, position, Some, None, refl, sym, ap, ◌∙◌, arith, Bor}
use Rattle.std.specs.List.{list_any, position_or_len}
use Rattle.std.specs.Str.{bytes_eq}
use Rattle.std.specs.Cmp.Lexicographic.{nat_list_eq_equiv}
use Rattle.std.proofs.lemmas.Bool.{lt-ltb}
use Rattle.std.proofs.lemmas.Slice.Eq.{bytes_eq-Decides}
use Rattle.list_actions.specs.Order.{is_among}
use Rattle.action_list.specs.Keys.{with_bytes}
use Rattle.action_list.proofs.Numbers.{new_place}

abbrev pub texts : List (Bor (List ℕ)) → List (List ℕ)
texts ks = map (λ k. k.now) ks

-- the keys with this one, as a set of keys inserts it
abbrev pub inserted : List (Bor (List ℕ)) → Bor (List ℕ) → List (Bor (List ℕ))
inserted ks k = cond (list_any (λ x. bytes_eq k.now x.now) ks) ks (ks ++ k ∷ [])

pub any_text : (bytes : List ℕ) (ks : List (Bor (List ℕ))) → list_any (λ k. bytes_eq bytes k.now) ks ≡ is_among (texts ks) bytes
any_text bytes [] = refl
any_text bytes (k ∷ ks) =
    ap (λ b. b || list_any (λ x. bytes_eq bytes x.now) ks) (nat_list_eq_equiv.symm bytes k.now)
    ∙ ap (λ b. bytes_eq k.now bytes || b) (any_text bytes ks)

place_text : (bytes : List ℕ) (ks : List (Bor (List ℕ))) → position_or_len (λ k. bytes_eq bytes k.now) ks ≡ position_or_len (λ k. bytes_eq k bytes) (texts ks)
place_text bytes [] = refl
place_text bytes (k ∷ ks) =
    ap (λ b. cond (not b) (1 + position_or_len (λ x. bytes_eq bytes x.now) ks) 0) (nat_list_eq_equiv.symm bytes k.now)
    ∙ ap (λ n. cond (not (bytes_eq k.now bytes)) (1 + n) 0) (place_text bytes ks)

texts_push : (ks : List (Bor (List ℕ))) (k : Bor (List ℕ)) → texts (ks ++ k ∷ []) ≡ texts ks ++ k.now ∷ []
texts_push [] k = refl
texts_push (x ∷ ks) k = ap (λ ts. x.now ∷ ts) (texts_push ks k)

pub inserted_text : (ks : List (Bor (List ℕ))) (k : Bor (List ℕ)) → texts (inserted ks k) ≡ with_bytes (texts ks) k.now
inserted_text ks k =
    elim (list_any (λ x. bytes_eq k.now x.now) ks) as (λ b. texts (cond b ks (ks ++ k ∷ [])) ≡ cond b (texts ks) (texts ks ++ k.now ∷ []))
    [ true ↦ refl | false ↦ texts_push ks k ]
    ∙ ap (λ b. cond b (texts ks) (texts ks ++ k.now ∷ [])) (any_text k.now ks)

-- ---- the place of what was inserted

some_place : {X : Type 0} (p : X → Bool) (xs : List X) → list_any p xs ≡ true → position_or_len p xs < length xs
some_place p [] h = cc
some_place p (x ∷ xs) h =
    elim (p x) as (λ b. (b || list_any p xs) ≡ true → cond (not b) (1 + position_or_len p xs) 0 < suc (length xs))
    [ true ↦ (λ e. omega arith) | false ↦ (λ e. let rest = some_place p xs e in omega arith) ] h

no_place : {X : Type 0} (p : X → Bool) (xs : List X) → list_any p xs ≡ false → position_or_len p xs ≡ length xs
no_place p [] h = refl
no_place p (x ∷ xs) h =
    elim (p x) as (λ b. (b || list_any p xs) ≡ false → cond (not b) (1 + position_or_len p xs) 0 ≡ suc (length xs))
    [ true ↦ (λ e. cc) | false ↦ (λ e. let rest = no_place p xs e in omega arith) ] h

inserted_place : {X : Type 0} (p : X → Bool) (xs : List X) (y : X) → p y ≡ true → position p (cond (list_any p xs) xs (xs ++ y ∷ [])) ≡ Some (position_or_len p xs)
inserted_place p xs y here =
    elim (list_any p xs) as (λ b. list_any p xs ≡ b → position p (cond b xs (xs ++ y ∷ [])) ≡ Some (position_or_len p xs)) [
      | true ↦ (λ e. ap (λ b. cond b (Some (position_or_len p xs)) None) (lt-ltb (position_or_len p xs) (length xs) (some_place p xs e)))
      | false ↦ (λ e. new_place p xs y e here ∙ ap Some (sym (no_place p xs e)))
    ] refl

pub place_inserted : (ks : List (Bor (List ℕ))) (bytes : List ℕ) → position (λ k. bytes_eq k bytes) (with_bytes (texts ks) bytes) ≡ Some (position_or_len (λ k. bytes_eq bytes k.now) ks)
place_inserted ks bytes =
    inserted_place (λ k. bytes_eq k bytes) (texts ks) bytes ((bytes_eq-Decides bytes bytes).1 refl)
    ∙ ap Some (sym (place_text bytes ks))
