-- What is in one list, and how it is taken apart.
use Rattle.std.proofs.Common.{◌≡◌, List, [], ◌∷◌, ◌++◌, map, refl, sym, ◌∙◌, ap, append_assoc}
use Rattle.std.proofs.Common.{Option, None, Some}
use Rattle.std.proofs.lemmas.List.{map-append}
use Rattle.lane_threads.specs.declared.pair.Either.{Either}
use Rattle.lane_threads.specs.declared.pair.Either.TheVariants.{First, Second}
use Rattle.lane_threads.specs.Parts.{in_one_list, HasParts}

module _ {A B : Type 0} where
  -- the others, each as one of the first kind
  abbrev firsts : List A → List (Either A B)
  firsts others = map (λ other. First other) others

  firsts_more : (front : List A) (a : A) → firsts (front ++ a ∷ []) ≡ firsts front ++ First a ∷ []
  firsts_more front a = map-append (λ (other : A). First other) front (a ∷ [])

  -- ---- the others are laid in it

  -- some of the others are laid in the list, and the rest is still to come
  pub record Laying (others rest : List A) (all : List (Either A B)) : Type 0 where
    pub front : List A
    pub split : others ≡ front ++ rest
    pub laid : all ≡ firsts front

  pub lays_one : (others rest rest' : List A) (all all' : List (Either A B)) (a : A)
      → Laying others rest all → rest ≡ a ∷ rest' → all' ≡ all ++ First a ∷ []
      → Laying others rest' all'
  lays_one others rest rest' all all' a was e more = record {
    front = was.front ++ a ∷ [];
    split = was.split
        ∙ (ap (λ (xs : List A). was.front ++ xs) e ∙ sym (append_assoc was.front (a ∷ []) rest'));
    laid = more
        ∙ (ap (λ (xs : List (Either A B)). xs ++ First a ∷ []) was.laid
        ∙ sym (firsts_more was.front a));
  }

  -- ---- and taken out of it

  -- the others in front are taken out, and the rest has its parts
  pub record Taking (all rest : List (Either A B)) (others : List A) : Type 0 where
    pub split : all ≡ firsts others ++ rest
    pub parts : HasParts rest

  parts_behind : (a : A) (rest : List (Either A B)) (others : List A) (beside : Option B)
      → First a ∷ rest ≡ in_one_list others beside → HasParts rest
  parts_behind a rest [] None e = absurd (cc)
  parts_behind a rest [] (Some b) e = absurd (cc)
  parts_behind a rest (o ∷ os) beside e = (os, beside, (cc))

  pub takes_one : (all rest rest' : List (Either A B)) (others others' : List A) (one : Either A B)
      (a : A) → Taking all rest others → rest ≡ one ∷ rest' → one ≡ First a
      → others' ≡ others ++ a ∷ [] → Taking all rest' others'
  takes_one all rest rest' others others' one a was next is more =
      let e : rest ≡ First a ∷ rest' = next ∙ ap (λ (x : Either A B). x ∷ rest') is in
      let out : firsts others' ≡ firsts others ++ First a ∷ [] =
      ap (λ (xs : List A). firsts xs) more ∙ firsts_more others a in
      record {
        split = was.split ∙ (ap (λ (xs : List (Either A B)). firsts others ++ xs) e
            ∙ (sym (append_assoc (firsts others) (First a ∷ []) rest')
            ∙ ap (λ (xs : List (Either A B)). xs ++ rest') (sym out)));
        parts = parts_behind a rest' was.parts.0 was.parts.1 (sym e ∙ was.parts.2);
      }

  none_behind : (b : B) (rest : List (Either A B)) (others : List A) (beside : Option B)
      → Second b ∷ rest ≡ in_one_list others beside → rest ≡ []
  none_behind b rest [] None e = absurd (cc)
  none_behind b rest [] (Some b') e = cc
  none_behind b rest (o ∷ os) beside e = absurd (cc)

  -- the one beside is the last
  pub takes_last : (all rest rest' : List (Either A B)) (others : List A) (one : Either A B) (b : B)
      → Taking all rest others → rest ≡ one ∷ rest' → one ≡ Second b
      → all ≡ in_one_list others (Some b)
  takes_last all rest rest' others one b was next is =
      let e : rest ≡ Second b ∷ rest' = next ∙ ap (λ (x : Either A B). x ∷ rest') is in
      let last = none_behind b rest' was.parts.0 was.parts.1 (sym e ∙ was.parts.2) in
      was.split ∙ ap (λ (xs : List (Either A B)). firsts others ++ xs)
      (e ∙ ap (λ (xs : List (Either A B)). Second b ∷ xs) last)

  -- ---- one list has its parts in one way

  -- the same others, and the same beside
  pub same_parts : (others others' : List A) (beside beside' : Option B)
      → in_one_list others beside ≡ in_one_list others' beside'
      → (others ≡ others') × (beside ≡ beside')
  same_parts [] [] None None e = (refl, refl)
  same_parts [] [] (Some b) (Some b') e = (refl, (cc))
  same_parts [] [] None (Some b) e = absurd (cc)
  same_parts [] [] (Some b) None e = absurd (cc)
  same_parts [] (o ∷ os) None beside' e = absurd (cc)
  same_parts [] (o ∷ os) (Some b) beside' e = absurd (cc)
  same_parts (o ∷ os) [] beside None e = absurd (cc)
  same_parts (o ∷ os) [] beside (Some b) e = absurd (cc)
  same_parts (o ∷ os) (p ∷ ps) beside beside' e =
      let first : ◌≡◌ {A = Either A B} (First o) (First p) = cc in
      let here : o ≡ p = cc in
      let more = same_parts os ps beside beside' (cc) in
      ((let whole : o ∷ os ≡ p ∷ ps = cc (here, more.0) in whole), more.1)
