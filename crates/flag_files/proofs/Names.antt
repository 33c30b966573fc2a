-- Which words name a file.
use Rattle.std.proofs.Common.{◌≡◌, ◌↔◌, ℕ, ◌<◌, Bool, true, false, List, [], ◌∷◌, ◌++◌, length, get_or, nat_eq, eqb, ◌&&◌, inl, inr, refl, sym, ap, ◌∙◌, arith}
use Rattle.std.specs.List.{starts_with}
use Rattle.std.specs.Str.Iter.{HasSubslice}
use Rattle.std.proofs.lemmas.Bool.Decides.{nat_tests}
use Rattle.std.proofs.lemmas.Bool.{or_cases, or_right}
use Rattle.flag_files.specs.Expand.{has_double_slash, names_file}

-- where a word names a file, it begins with one byte that isn't the file's
pub at_sign : (word : List ℕ) → names_file word ≡ true → (0 < length word) × (get_or word 0 0 < 128)
at_sign [] e = cc
at_sign (b ∷ bs) e = (omega arith, grind (arith, nat_tests))

tail_has : (b : ℕ) (bs : List ℕ) → HasSubslice bs (47 ∷ 47 ∷ []) → HasSubslice (b ∷ bs) (47 ∷ 47 ∷ [])
tail_has b bs h = (b ∷ h.0, h.1, ap (λ x. b ∷ x) h.2)

alone : (b : ℕ) → starts_with nat_eq (b ∷ []) (47 ∷ 47 ∷ []) ≡ true → ⊥
alone b e = elim (eqb 47 b) as (λ t. (t && false) ≡ true → ⊥) [ true ↦ (λ h. cc) | false ↦ (λ h. cc) ] e

begins_so : (b d : ℕ) (bs : List ℕ) → starts_with nat_eq (b ∷ d ∷ bs) (47 ∷ 47 ∷ []) ≡ true → (b ≡ 47) × (d ≡ 47)
begins_so b d bs e = (grind (arith, nat_tests), grind (arith, nat_tests))

-- where the test holds, two slashes stand in the word
found : (word : List ℕ) → has_double_slash word ≡ true → HasSubslice word (47 ∷ 47 ∷ [])
found [] e = cc
found (b ∷ []) e =
    elim (or_cases (starts_with nat_eq (b ∷ []) (47 ∷ 47 ∷ [])) false e) [
      | inl begins ↦ absurd (alone b begins)
      | inr later ↦ cc
    ]
found (b ∷ d ∷ bs) e =
    elim (or_cases (starts_with nat_eq (b ∷ d ∷ bs) (47 ∷ 47 ∷ [])) (has_double_slash (d ∷ bs)) e) [
      | inl begins ↦ let both = begins_so b d bs begins in ([], bs, ap (λ x. x ∷ d ∷ bs) both.0 ∙ ap (λ x. 47 ∷ x ∷ bs) both.1)
      | inr later ↦ tail_has b (d ∷ bs) (found (d ∷ bs) later)
    ]

-- where two slashes stand in the word, the test holds
finds : (front rest : List ℕ) → has_double_slash (front ++ 47 ∷ 47 ∷ rest) ≡ true
finds [] rest = refl
finds (b ∷ front) rest = or_right (starts_with nat_eq (b ∷ front ++ 47 ∷ 47 ∷ rest) (47 ∷ 47 ∷ [])) (has_double_slash (front ++ 47 ∷ 47 ∷ rest)) (finds front rest)

same_tests : (a b : Bool) → (a ≡ true → b ≡ true) → (b ≡ true → a ≡ true) → a ≡ b
same_tests true b there back = sym (there refl)
same_tests false true there back = back refl
same_tests false false there back = refl

pub double_slash : (word : List ℕ) (answer : Bool) → (answer ≡ true) ↔ HasSubslice word (47 ∷ 47 ∷ []) → answer ≡ has_double_slash word
double_slash word answer says =
    same_tests answer (has_double_slash word)
    (λ yes'. let h = says.0 yes' in ap has_double_slash h.2 ∙ finds h.0 h.1)
    (λ yes'. says.1 (found word yes'))
