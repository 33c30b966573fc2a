-- The place of a key among the different keys of a list.
use Rattle.std.proofs.Common.{◌≡◌, ℕ, suc, ◌+◌, ◌<◌, Bool, true, false, cond, ◌||◌, ltb, is_some, List, [], ◌∷◌, ◌++◌, length, map, get_or, position, Option, Some, None, refl, sym, ap, subst, ◌∙◌, arith, length-append}
use Rattle.std.specs.List.{list_any, position_from, position_or_len}
use Rattle.std.specs.Str.{bytes_eq}
use Rattle.std.proofs.lemmas.Iterator.Adapters.{position_from-zero}
use Rattle.std.proofs.lemmas.Bool.{ltb-true, ltb-false}
use Rattle.std.proofs.lemmas.List.{get_or_append_left, get_or_push}
use Rattle.std.proofs.lemmas.List.Sums.{passes_at_first}
use Rattle.std.proofs.lemmas.Slice.Eq.{bytes_eq-Decides}
use Rattle.list_actions.specs.declared.types.ListAction.{ListAction}
use Rattle.list_actions.specs.Order.{is_among}
use Rattle.action_list.specs.Checks.{has_local}
use Rattle.action_list.specs.Keys.{key_bytes, keys_among, keys_from, keys_of, with_bytes, with_held, with_key}
use Rattle.action_list.specs.Plans.{local_key, local_of, number_of}

-- ---- the first place, from a place on

pub position_is : {X : Type 0} (p : X → Bool) (xs : List X) → position p xs ≡ position_from p 0 xs
position_is p xs = position_from-zero p xs

from_kept : {X : Type 0} (p : X → Bool) (i n : ℕ) (xs ys : List X) → position_from p i xs ≡ Some n → position_from p i (xs ++ ys) ≡ Some n
from_kept p i n [] ys h = cc
from_kept p i n (x ∷ xs) ys h =
    elim (p x) as (λ b. cond b (Some i) (position_from p (i + 1) xs) ≡ Some n → cond b (Some i) (position_from p (i + 1) (xs ++ ys)) ≡ Some n)
    [ true ↦ (λ e. e) | false ↦ (λ e. from_kept p (i + 1) n xs ys e) ] h

pub kept_place : {X : Type 0} (p : X → Bool) (n : ℕ) (xs ys : List X) → position p xs ≡ Some n → position p (xs ++ ys) ≡ Some n
kept_place p n xs ys h = position_is p (xs ++ ys) ∙ from_kept p 0 n xs ys (sym (position_is p xs) ∙ h)

from_within : {X : Type 0} (p : X → Bool) (i n : ℕ) (xs : List X) → position_from p i xs ≡ Some n → n < i + length xs
from_within p i n [] h = cc
from_within p i n (x ∷ xs) h =
    elim (p x) as (λ b. cond b (Some i) (position_from p (i + 1) xs) ≡ Some n → n < i + suc (length xs)) [
      | true ↦ (λ e. let same : i ≡ n = cc in omega arith)
      | false ↦ (λ e. let rest = from_within p (i + 1) n xs e in omega arith)
    ] h

pub within : {X : Type 0} (p : X → Bool) (n : ℕ) (xs : List X) → position p xs ≡ Some n → n < length xs
within p n xs h = omega (arith, from_within p 0 n xs (sym (position_is p xs) ∙ h))

-- what stands at the place passes
pub at_place : {X : Type 0} (p : X → Bool) (n : ℕ) (xs : List X) (d : X) → position p xs ≡ Some n → p (get_or xs n d) ≡ true
at_place p n xs d h =
    elim (ltb (position_or_len p xs) (length xs))
    as (λ b. ltb (position_or_len p xs) (length xs) ≡ b → cond b (Some (position_or_len p xs)) None ≡ Some n → p (get_or xs n d) ≡ true) [
      | true ↦ (λ e k. let same : position_or_len p xs ≡ n = cc in subst (λ m. p (get_or xs m d) ≡ true) same (passes_at_first p xs d (ltb-true _ _ e)))
      | false ↦ (λ e k. cc)
    ] refl h

-- where nothing passes, one more that does is at the end
from_new : {X : Type 0} (p : X → Bool) (i : ℕ) (xs : List X) (y : X) → list_any p xs ≡ false → p y ≡ true → position_from p i (xs ++ y ∷ []) ≡ Some (i + length xs)
from_new p i [] y none here = ap (λ b. cond b (Some i) None) here ∙ ap Some (omega arith)
from_new p i (x ∷ xs) y none here =
    elim (p x) as (λ b. p x ≡ b → cond b (Some i) (position_from p (i + 1) (xs ++ y ∷ [])) ≡ Some (i + suc (length xs))) [
      | true ↦ (λ e. let no_way : true ≡ false = ap (λ b. b || list_any p xs) (sym e) ∙ none in cc)
      | false ↦ (λ e. from_new p (i + 1) xs y (ap (λ b. b || list_any p xs) (sym e) ∙ none) here ∙ ap Some (omega arith))
    ] refl

pub new_place : {X : Type 0} (p : X → Bool) (xs : List X) (y : X) → list_any p xs ≡ false → p y ≡ true → position p (xs ++ y ∷ []) ≡ Some (length xs)
new_place p xs y none here = position_is p (xs ++ y ∷ []) ∙ from_new p 0 xs y none here ∙ ap Some (omega arith)

-- one more element stands behind those that were there
from_push : {X : Type 0} (p : X → Bool) (i : ℕ) (xs : List X) (y : X)
    → position_from p i (xs ++ y ∷ []) ≡ cond (is_some (position_from p i xs)) (position_from p i xs) (cond (p y) (Some (i + length xs)) None)
from_push p i [] y = ap (λ n. cond (p y) (Some n) None) (omega arith)
from_push p i (x ∷ xs) y =
    elim (p x) as (λ b. cond b (Some i) (position_from p (i + 1) (xs ++ y ∷ []))
    ≡ cond (is_some (cond b (Some i) (position_from p (i + 1) xs))) (cond b (Some i) (position_from p (i + 1) xs)) (cond (p y) (Some (i + suc (length xs))) None)) [
      | true ↦ refl
      | false ↦ from_push p (i + 1) xs y ∙ ap (λ n. cond (is_some (position_from p (i + 1) xs)) (position_from p (i + 1) xs) (cond (p y) (Some n) None)) (omega arith)
    ]

pub place_push : {X : Type 0} (p : X → Bool) (xs : List X) (y : X)
    → position p (xs ++ y ∷ []) ≡ cond (is_some (position p xs)) (position p xs) (cond (p y) (Some (length xs)) None)
place_push p xs y =
    position_is p (xs ++ y ∷ []) ∙ from_push p 0 xs y
    ∙ ap (λ n. cond (is_some (position_from p 0 xs)) (position_from p 0 xs) (cond (p y) (Some n) None)) (omega arith)
    ∙ ap (λ o. cond (is_some o) o (cond (p y) (Some (length xs)) None)) (sym (position_is p xs))

-- ---- the different keys

held_key : (keys : List (List ℕ)) (x : ListAction) → with_held keys (local_key x) ≡ with_key keys x
held_key keys x =
    elim (has_local x.strategy) as (λ b. with_held keys (cond b (Some (key_bytes x)) None) ≡ cond b (with_bytes keys (key_bytes x)) keys)
    [ true ↦ refl | false ↦ refl ]

among_from : (keys : List (List ℕ)) (xs : List ListAction) → keys_among keys (map local_key xs) ≡ keys_from keys xs
among_from keys [] = refl
among_from keys (x ∷ xs) = ap (λ ks. keys_among ks (map local_key xs)) (held_key keys x) ∙ among_from (with_key keys x) xs

pub among_is : (xs : List ListAction) → keys_among [] (map local_key xs) ≡ keys_of xs
among_is xs = among_from [] xs

-- a key that has a place keeps it
kept_by_bytes : (p : List ℕ → Bool) (n : ℕ) (keys : List (List ℕ)) (bytes : List ℕ) → position p keys ≡ Some n → position p (with_bytes keys bytes) ≡ Some n
kept_by_bytes p n keys bytes h =
    elim (is_among keys bytes) as (λ b. position p (cond b keys (keys ++ bytes ∷ [])) ≡ Some n)
    [ true ↦ h | false ↦ kept_place p n keys (bytes ∷ []) h ]

kept_by_held : (p : List ℕ → Bool) (n : ℕ) (keys : List (List ℕ)) (o : Option (List ℕ)) → position p keys ≡ Some n → position p (with_held keys o) ≡ Some n
kept_by_held p n keys None h = h
kept_by_held p n keys (Some bytes) h = kept_by_bytes p n keys bytes h

kept_among : (p : List ℕ → Bool) (n : ℕ) (keys : List (List ℕ)) (held : List (Option (List ℕ))) → position p keys ≡ Some n → position p (keys_among keys held) ≡ Some n
kept_among p n keys [] h = h
kept_among p n keys (o ∷ held) h = kept_among p n (with_held keys o) held (kept_by_held p n keys o h)

-- the number that a key has once it is there is its number in the end
pub number_stays : (keys : List (List ℕ)) (held : List (Option (List ℕ))) (number : Option ℕ) (key : Option (List ℕ))
    → number ≡ number_of keys key → is_some number ≡ is_some key → number ≡ number_of (keys_among keys held) key
number_stays keys held number None is there = is
number_stays keys held (Some n) (Some bytes) is there = sym (kept_among (λ key. bytes_eq key bytes) n keys held (sym is))
number_stays keys held None (Some bytes) is there = cc

-- the numbers of actions' keys are those of the keys that they hold
pub numbers_are : (keys : List (List ℕ)) (xs : List ListAction) → map (number_of keys) (map local_key xs) ≡ map (local_of keys) xs
numbers_are keys [] = refl
numbers_are keys (x ∷ xs) = ap (λ ns. local_of keys x ∷ ns) (numbers_are keys xs)

-- ---- each key stands at one place

-- the place of the key at each place is this one
abbrev pub IsNumbered : List (List ℕ) → Type 0
IsNumbered keys = (i : ℕ) → i < length keys → position (λ key. bytes_eq key (get_or keys i [])) keys ≡ Some i

numbered_bytes : (keys : List (List ℕ)) (bytes : List ℕ) → IsNumbered keys → IsNumbered (with_bytes keys bytes)
numbered_bytes keys bytes h =
    elim (is_among keys bytes) as (λ b. is_among keys bytes ≡ b → IsNumbered (cond b keys (keys ++ bytes ∷ []))) [
      | true ↦ (λ e. h)
      | false ↦ (λ e i lt.
          elim (ltb i (length keys)) as (λ b. ltb i (length keys) ≡ b → position (λ key. bytes_eq key (get_or (keys ++ bytes ∷ []) i [])) (keys ++ bytes ∷ []) ≡ Some i) [
            | true ↦ (λ below.
                let less = ltb-true i (length keys) below in
                ap (λ v. position (λ key. bytes_eq key v) (keys ++ bytes ∷ [])) (get_or_append_left keys (bytes ∷ []) [] i less)
                ∙ kept_place (λ key. bytes_eq key (get_or keys i [])) i keys (bytes ∷ []) (h i less))
            | false ↦ (λ above.
                let most = ltb-false i (length keys) above in
                let long = length-append keys (bytes ∷ []) in
                let end : i ≡ length keys = omega (arith, most, long, lt) in
                ap (λ n. position (λ key. bytes_eq key (get_or (keys ++ bytes ∷ []) n [])) (keys ++ bytes ∷ [])) end
                ∙ ap (λ v. position (λ key. bytes_eq key v) (keys ++ bytes ∷ [])) (get_or_push keys bytes [] (length keys) refl)
                ∙ new_place (λ key. bytes_eq key bytes) keys bytes e ((bytes_eq-Decides bytes bytes).1 refl)
                ∙ ap Some (sym end))
          ] refl)
    ] refl

numbered_held : (keys : List (List ℕ)) (o : Option (List ℕ)) → IsNumbered keys → IsNumbered (with_held keys o)
numbered_held keys None h = h
numbered_held keys (Some bytes) h = numbered_bytes keys bytes h

numbered_among : (keys : List (List ℕ)) (held : List (Option (List ℕ))) → IsNumbered keys → IsNumbered (keys_among keys held)
numbered_among keys [] h = h
numbered_among keys (o ∷ held) h = numbered_among (with_held keys o) held (numbered_held keys o h)

pub numbered : (xs : List ListAction) → IsNumbered (keys_of xs)
numbered xs = subst IsNumbered (among_is xs) (numbered_among [] (map local_key xs) (λ i lt. absurd (omega arith)))
