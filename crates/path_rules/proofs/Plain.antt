-- A plain path has no fault.
use Rattle.std.proofs.Common.{◌≡◌, ℕ, suc, ◌+◌, ◌≤◌, Bool, true, false, cond, not, ◌&&◌, ◌||◌, eqb, ◌==◌, List, [], ◌∷◌, length, take, codes, find, None, Some, refl, sym, ap, subst, ◌∙◌, arith, nat_eq}
use Rattle.std.proofs.lemmas.Bool.{and_parts, eqb-false, le-ltb, ne_eqb}
use Rattle.std.specs.List.{list_all, list_any, onto_first, position_or_len, slice_split, starts_with}
use Rattle.std.specs.Str.{bytes_eq}
use Rattle.path_rules.specs.declared.PathFault.{PathFault}
use Rattle.path_rules.specs.declared.PathFault.TheVariants as fault
use Rattle.path_rules.specs.Paths.{first_segment, has_fault, is_part_name, is_plain_from, path_fault, segments}

-- ---- the segments of a plain path

abbrev is_slash : ℕ → Bool
is_slash b = b == 47

-- it begins with a byte that is no dot
abbrev is_good : List ℕ → Bool
is_good [] = false
is_good (b ∷ bs) = not (b == 46)

abbrev later : List (List ℕ) → List (List ℕ)
later [] = []
later (part ∷ parts) = parts

-- all segments, or all but the first where that began before
abbrev are_good : Bool → List (List ℕ) → Bool
are_good true parts = list_all is_good parts
are_good false parts = list_all is_good (later parts)

none_of_three : (z s d : Bool) → not (z || (s || d)) ≡ true → (s ≡ false) × (d ≡ false)
none_of_three true s d h = cc
none_of_three false true d h = cc
none_of_three false false true h = cc
none_of_three false false false h = (refl, refl)

not_first : (z x : Bool) → not (z || x) ≡ true → z ≡ false
not_first true x h = cc
not_first false x h = refl

later_onto : (b : ℕ) (parts : List (List ℕ)) → later (onto_first b parts) ≡ later parts
later_onto b [] = refl
later_onto b (part ∷ parts) = refl

good_onto : (b : ℕ) (parts : List (List ℕ)) → (b == 46) ≡ false → list_all is_good (later parts) ≡ true → list_all is_good (onto_first b parts) ≡ true
good_onto b [] e h = ap (λ t. not t && true) e
good_onto b (part ∷ parts) e h = ap (λ t. not t && list_all is_good parts) e ∙ h

plain_are_good : (begins : Bool) (bs : List ℕ) → is_plain_from begins bs ≡ true → are_good begins (slice_split is_slash bs) ≡ true
plain_are_good true [] h = cc
plain_are_good false [] h = refl
plain_are_good true (b ∷ bs) h =
    let parts = slice_split is_slash bs in
    let both = and_parts (not (b == 0 || (b == 47 || b == 46))) (is_plain_from (b == 47) bs) h in
    let here = none_of_three (b == 0) (b == 47) (b == 46) both.0 in
    let rest : is_plain_from false bs ≡ true = subst (λ t. is_plain_from t bs ≡ true) here.0 both.1 in
    ap (λ t. list_all is_good (cond t ([] ∷ parts) (onto_first b parts))) here.0
    ∙ good_onto b parts here.1 (plain_are_good false bs rest)
plain_are_good false (b ∷ bs) h =
    let parts = slice_split is_slash bs in
    let both = and_parts (not (b == 0 || false)) (is_plain_from (b == 47) bs) h in
    elim (b == 47) as (λ t. is_plain_from t bs ≡ true → list_all is_good (later (cond t ([] ∷ parts) (onto_first b parts))) ≡ true) [
      | true ↦ (λ k. plain_are_good true bs k)
      | false ↦ (λ k. ap (list_all is_good) (later_onto b parts) ∙ plain_are_good false bs k)
    ] both.1

no_nul : (begins : Bool) (bs : List ℕ) → is_plain_from begins bs ≡ true → list_any (λ b. b == 0) bs ≡ false
no_nul begins [] h = refl
no_nul begins (b ∷ bs) h =
    let both = and_parts (not (b == 0 || begins && (b == 47 || b == 46))) (is_plain_from (b == 47) bs) h in
    ap (λ t. t || list_any (λ x. x == 0) bs) (not_first (b == 0) _ both.0) ∙ no_nul (b == 47) bs both.1

-- ---- what no good segment is

none_is : (test : List ℕ → Bool) (parts : List (List ℕ)) → ((s : List ℕ) → is_good s ≡ true → test s ≡ false) → list_all is_good parts ≡ true → list_any test parts ≡ false
none_is test [] other h = refl
none_is test (s ∷ parts) other h =
    let both = and_parts (is_good s) (list_all is_good parts) h in
    ap (λ t. t || list_any test parts) (other s both.0) ∙ none_is test parts other both.1

not_true : (b : Bool) → not b ≡ true → b ≡ false
not_true true h = cc
not_true false h = refl

not_both : (b : Bool) → (b && true) ≡ false → b ≡ false
not_both true h = cc
not_both false h = refl

turned : (a b : ℕ) → eqb a b ≡ false → eqb b a ≡ false
turned a b h = ne_eqb b a (λ e. eqb-false a b h (sym e))

not_empty : (s : List ℕ) → is_good s ≡ true → bytes_eq s [] ≡ false
not_empty [] h = cc
not_empty (b ∷ bs) h = refl

not_dot : (s : List ℕ) → is_good s ≡ true → bytes_eq s (codes ".") ≡ false
not_dot [] h = refl
not_dot (b ∷ bs) h = ap (λ t. t && bytes_eq bs []) (not_true (b == 46) h)

not_dots : (s : List ℕ) → is_good s ≡ true → bytes_eq s (codes "..") ≡ false
not_dots [] h = refl
not_dots (b ∷ bs) h = ap (λ t. t && bytes_eq bs (codes ".")) (not_true (b == 46) h)

not_part : (s : List ℕ) → is_good s ≡ true → is_part_name s ≡ false
not_part [] h = refl
not_part (b ∷ bs) h = ap (λ t. t && bytes_eq (codes "worker_tool.") (take 12 bs)) (turned b 46 (not_true (b == 46) h))

-- ---- no fault

skip : (p : PathFault → Bool) (f : PathFault) (fs : List PathFault) → p f ≡ false → find p fs ≡ None → find p (f ∷ fs) ≡ None
skip p f fs none rest = ap (λ t. cond t (Some f) (find p fs)) none ∙ rest

first_is : (b : ℕ) (bs : List ℕ) → (b == 47) ≡ false → first_segment (b ∷ bs) ≡ b ∷ take (position_or_len is_slash bs) bs
first_is b bs e =
    let n = position_or_len is_slash bs in
    let on : 1 + n ≡ suc n = omega arith in
    ap (λ t. take (cond (not t) (1 + n) 0) (b ∷ bs)) e ∙ ap (λ k. take k (b ∷ bs)) on

none_reserved : (a b c : Bool) → a ≡ false → b ≡ false → c ≡ false → (a || b || c) ≡ false
none_reserved a b c x y z = ap (λ t. t || b || c) x ∙ ap (λ t. t || c) y ∙ z

pub no_fault : (path : List ℕ) → length path ≤ 4096 → starts_with nat_eq path (codes "_") ≡ false → is_plain_from true path ≡ true → path_fault path ≡ None
no_fault [] few score plain = cc
no_fault (b ∷ bs) few score plain =
    let path : List ℕ = b ∷ bs in
    let good = plain_are_good true path plain in
    let both = and_parts (not (b == 0 || (b == 47 || b == 46))) (is_plain_from (b == 47) bs) plain in
    let here = none_of_three (b == 0) (b == 47) (b == 46) both.0 in
    let begin = take (position_or_len is_slash bs) bs in
    let first = first_is b bs here.0 in
    let p = has_fault path in
    let no_score : eqb b 95 ≡ false = turned 95 b (not_both (eqb 95 b) score) in
    let no_room : bytes_eq (first_segment path) (codes "__sandbox") ≡ false =
    ap (λ s. bytes_eq s (codes "__sandbox")) first ∙ ap (λ t. t && bytes_eq begin (codes "_sandbox")) no_score in
    let no_rooms : bytes_eq (first_segment path) (codes ".worker_rooms") ≡ false =
    ap (λ s. bytes_eq s (codes ".worker_rooms")) first ∙ ap (λ t. t && bytes_eq begin (codes "worker_rooms")) here.1 in
    let last : List PathFault = fault.Reserved ∷ [] in
    let from_dots : List PathFault = fault.DotDot ∷ last in
    let from_dot : List PathFault = fault.Dot ∷ from_dots in
    let from_slashes : List PathFault = fault.DoubleSlash ∷ from_dot in
    let from_slash : List PathFault = fault.Absolute ∷ from_slashes in
    let from_nul : List PathFault = fault.Nul ∷ from_slash in
    let from_long : List PathFault = fault.TooLong ∷ from_nul in
    skip p fault.Empty from_long (ne_eqb (suc (length bs)) 0 (λ e. absurd (omega (arith, e))))
    (skip p fault.TooLong from_nul (le-ltb 4096 (length path) few)
    (skip p fault.Nul from_slash (no_nul true path plain)
    (skip p fault.Absolute from_slashes (ap (λ t. t && true) (turned b 47 here.0))
    (skip p fault.DoubleSlash from_dot (none_is (λ s. bytes_eq s []) (segments path) not_empty good)
    (skip p fault.Dot from_dots (none_is (λ s. bytes_eq s (codes ".")) (segments path) not_dot good)
    (skip p fault.DotDot last (none_is (λ s. bytes_eq s (codes "..")) (segments path) not_dots good)
    (skip p fault.Reserved [] (none_reserved _ _ _ no_room no_rooms (none_is is_part_name (segments path) not_part good)) refl)))))))
