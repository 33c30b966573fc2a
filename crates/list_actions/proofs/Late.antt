-- An input that this or a later action makes, found by the number of its last maker.
use Rattle.std.proofs.Common.{◌≡◌, ℕ, zero, suc, ◌+◌, ◌≤◌, true, false, cond, ◌||◌, List, [], ◌∷◌, ◌++◌, length, drop, Some, None, leb, refl, sym, ap, ◌∙◌, arith}
use Rattle.std.proofs.lemmas.Bool.{le-leb, lt-leb}
use Rattle.std.specs.Str.{bytes_eq}
use Rattle.list_actions.specs.declared.types.ListAction.{ListAction}
use Rattle.list_actions.specs.Order.{is_among, is_late, last_from, or_maker, outputs_of}

pub is_among-append : (xs ys : List (List ℕ)) (q : List ℕ) → is_among (xs ++ ys) q ≡ (is_among xs q || is_among ys q)
is_among-append [] ys q = refl
is_among-append (x ∷ xs) ys q =
    elim (bytes_eq x q) as (λ b. (b || is_among (xs ++ ys) q) ≡ ((b || is_among xs q) || is_among ys q)) [ true ↦ refl | false ↦ is_among-append xs ys q ]

-- one more action at the end is the last maker of its outputs
pub last_from-append : (a : ℕ) (xs : List ListAction) (x : ListAction) (q : List ℕ)
    → last_from a (xs ++ x ∷ []) q ≡ cond (is_among x.outputs q) (Some (a + length xs)) (last_from a xs q)
last_from-append a [] x q =
    let here : a + 0 ≡ a = omega arith in
    elim (is_among x.outputs q) as (λ b. or_maker None (cond b (Some a) None) ≡ cond b (Some (a + 0)) None) [ true ↦ ap Some (sym here) | false ↦ refl ]
last_from-append a (y ∷ ys) x q =
    let here = cond (is_among y.outputs q) (Some a) None in
    let count : (a + 1) + length ys ≡ a + length (y ∷ ys) = omega arith in
    ap (λ l. or_maker l here) (last_from-append (a + 1) ys x q)
    ∙ elim (is_among x.outputs q)
    as (λ b. or_maker (cond b (Some ((a + 1) + length ys)) (last_from (a + 1) ys q)) here ≡ cond b (Some (a + length (y ∷ ys))) (or_maker (last_from (a + 1) ys q) here))
    [ true ↦ ap Some count | false ↦ refl ]

-- a last maker is one of the actions
last_from-low : (s : ℕ) (xs : List ListAction) (q : List ℕ) (m : ℕ) → last_from s xs q ≡ Some m → s ≤ m
last_from-low s [] q m e = cc
last_from-low s (x ∷ xs) q m e =
    elim (last_from (s + 1) xs q)
    as (λ l. last_from (s + 1) xs q ≡ l → or_maker l (cond (is_among x.outputs q) (Some s) None) ≡ Some m → s ≤ m) [
      | None ↦ (λ at h. elim (is_among x.outputs q) as (λ b. cond b (Some s) None ≡ Some m → s ≤ m)
          [ true ↦ (λ k. let same : s ≡ m = cc in omega arith) | false ↦ (λ k. cc) ] h)
      | Some n ↦ (λ at h. let same : n ≡ m = cc in let low = last_from-low (s + 1) xs q n at in omega arith)
    ]
    refl e

-- a path that some of these actions make has a last maker among them
late_all : (a s : ℕ) (xs : List ListAction) (q : List ℕ) → a ≤ s → is_late a (last_from s xs q) ≡ is_among (outputs_of xs) q
late_all a s [] q low = refl
late_all a s (x ∷ xs) q low =
    let rest = late_all a (s + 1) xs q (omega arith) in
    elim (last_from (s + 1) xs q)
    as (λ l. last_from (s + 1) xs q ≡ l → is_late a l ≡ is_among (outputs_of xs) q
    → is_late a (or_maker l (cond (is_among x.outputs q) (Some s) None)) ≡ (is_among x.outputs q || is_among (outputs_of xs) q)) [
      | None ↦ (λ at h. elim (is_among x.outputs q) as (λ b. is_late a (cond b (Some s) None) ≡ (b || is_among (outputs_of xs) q)) [ true ↦ le-leb a s low | false ↦ h ])
      | Some n ↦ (λ at h.
          let above = last_from-low (s + 1) xs q n at in
          let yes' : leb a n ≡ true = le-leb a n (omega arith) in
          elim (is_among x.outputs q) as (λ b. leb a n ≡ (b || is_among (outputs_of xs) q)) [ true ↦ yes' | false ↦ h ])
    ]
    refl rest
    ∙ sym (is_among-append x.outputs (outputs_of xs) q)

-- a path is made by the action at i or a later one exactly where its last maker has this number or a later one
pub late_among : (s i : ℕ) (xs : List ListAction) (q : List ℕ) → i ≤ length xs → is_late (s + i) (last_from s xs q) ≡ is_among (outputs_of (drop i xs)) q
late_among s zero xs q within =
    let here : s + 0 ≡ s = omega arith in
    ap (λ a. is_late a (last_from s xs q)) here ∙ late_all s s xs q (omega arith)
late_among s (suc i) [] q within = absurd (omega arith)
late_among s (suc i) (x ∷ xs) q within =
    let count : (s + 1) + i ≡ s + suc i = omega arith in
    let rest = ap (λ a. is_late a (last_from (s + 1) xs q)) (sym count) ∙ late_among (s + 1) i xs q (omega arith) in
    elim (last_from (s + 1) xs q)
    as (λ l. is_late (s + suc i) l ≡ is_among (outputs_of (drop i xs)) q
    → is_late (s + suc i) (or_maker l (cond (is_among x.outputs q) (Some s) None)) ≡ is_among (outputs_of (drop i xs)) q) [
      | None ↦ (λ h. elim (is_among x.outputs q) as (λ b. is_late (s + suc i) (cond b (Some s) None) ≡ is_among (outputs_of (drop i xs)) q)
          [ true ↦ lt-leb (s + suc i) s (omega arith) ∙ h | false ↦ h ])
      | Some n ↦ (λ h. h)
    ]
    rest

pub late_at : (number i : ℕ) (xs : List ListAction) (q : List ℕ) → number ≡ i → i ≤ length xs → is_late number (last_from 0 xs q) ≡ is_among (outputs_of (drop i xs)) q
late_at number i xs q same within =
    let whole : number ≡ 0 + i = omega arith in
    ap (λ a. is_late a (last_from 0 xs q)) whole ∙ late_among 0 i xs q within
