-- Counting entries of a kind: each says something for the first time of one thing of a list, so
-- there are no more of them than things.
use Rattle.std.proofs.Common.{◌≡◌, ℕ, zero, suc, ◌+◌, ◌<◌, ◌≤◌, Bool, true, false, cond, List, [], ◌∷◌, ◌++◌, length, ◌⊎◌, inl, inr, refl, sym, ap, subst, ◌∙◌, arith}
use Rattle.std.specs.Prelude.{count_by}
use Rattle.std.proofs.lemmas.Bool.{cases_lt}
use Rattle.std.proofs.lemmas.List.Sums.{sum_by-cons}
use Rattle.run_plan.specs.declared.plan.Plan.{Plan}
use Rattle.exec_journal.specs.Entry.{Entry}
use Rattle.exec_journal.specs.History.{AtEach}
use Rattle.exec_journal.specs.Lawful.{Lawful}
use Rattle.exec_journal.proofs.Ruled.{by_bool}

-- ---- things of a list

-- it stands in the list
abbrev pub IsAmong : {X : Type 0} → X → List X → Type 0
IsAmong x [] = ⊥
IsAmong x (y ∷ ys) = (y ≡ x) ⊎ IsAmong x ys

pub among_left : {X : Type 0} (x : X) (xs ys : List X) → IsAmong x xs → IsAmong x (xs ++ ys)
among_left x [] ys h = absurd h
among_left x (z ∷ xs) ys (inl here) = inl here
among_left x (z ∷ xs) ys (inr later) = inr (among_left x xs ys later)

pub among_right : {X : Type 0} (x : X) (xs ys : List X) → IsAmong x ys → IsAmong x (xs ++ ys)
among_right x [] ys h = h
among_right x (z ∷ xs) ys h = inr (among_right x xs ys h)

-- the numbers below n
unfoldable pub numbers : ℕ → List ℕ
numbers zero = []
numbers (suc n) = n ∷ numbers n

pub among_numbers : (i n : ℕ) → i < n → IsAmong i (numbers n)
unfolding numbers
among_numbers i zero lt = absurd (omega (arith, lt))
among_numbers i (suc n) lt = elim (cases_lt i n) [
  | inl low ↦ inr (among_numbers i n low)
  | inr high ↦ inl (omega (arith, lt, high))
]

pub numbers_length : (n : ℕ) → length (numbers n) ≡ n
unfolding numbers
numbers_length zero = refl
numbers_length (suc n) = let h = numbers_length n in omega (arith, h)

-- ---- how many of them pass a test

abbrev pub bit : Bool → ℕ
bit b = cond b 1 0

pub count-cons : {X : Type 0} (p : X → Bool) (x : X) (xs : List X)
    → count_by p (x ∷ xs) ≡ bit (p x) + count_by p xs
count-cons p x xs = sum_by-cons (λ y. bit (p y)) x xs

pub bit_le : (b c : Bool) → (b ≡ true → c ≡ true) → bit b ≤ bit c
bit_le false c f = omega arith
bit_le true c f = subst (λ d. 1 ≤ bit d) (sym (f refl)) (omega arith)

bit_most : (b : Bool) → bit b ≤ 1
bit_most true = omega arith
bit_most false = omega arith

pub count_le : {X : Type 0} (p q : X → Bool) → ((x : X) → p x ≡ true → q x ≡ true) → (xs : List X)
    → count_by p xs ≤ count_by q xs
count_le p q f [] = omega arith
count_le p q f (x ∷ xs) =
    let one = bit_le (p x) (q x) (f x) in
    let rest = count_le p q f xs in
    let left = count-cons p x xs in
    let right = count-cons q x xs in
    omega (arith, one, rest, left, right)

pub count_more : {X : Type 0} (p q : X → Bool) → ((x : X) → p x ≡ true → q x ≡ true) → (xs : List X)
    → (z : X) → IsAmong z xs → p z ≡ false → q z ≡ true → count_by p xs + 1 ≤ count_by q xs
count_more p q f [] z at out within = absurd at
count_more p q f (x ∷ xs) z (inl here) out within =
    let rest = count_le p q f xs in
    let left : count_by p (x ∷ xs) ≡ 0 + count_by p xs =
    count-cons p x xs ∙ ap (λ b. bit b + count_by p xs) (ap p here ∙ out) in
    let right : count_by q (x ∷ xs) ≡ 1 + count_by q xs =
    count-cons q x xs ∙ ap (λ b. bit b + count_by q xs) (ap q here ∙ within) in
    omega (arith, rest, left, right)
count_more p q f (x ∷ xs) z (inr later) out within =
    let one = bit_le (p x) (q x) (f x) in
    let rest = count_more p q f xs z later out within in
    let left = count-cons p x xs in
    let right = count-cons q x xs in
    omega (arith, one, rest, left, right)

pub count_most : {X : Type 0} (p : X → Bool) (xs : List X) → count_by p xs ≤ length xs
count_most p [] = omega arith
count_most p (x ∷ xs) =
    let one = bit_most (p x) in
    let rest = count_most p xs in
    let left = count-cons p x xs in
    omega (arith, one, rest, left)

-- ---- entries of a kind

-- the entry is the first that says something of one of these things
pub record IsFirst {X : Type 0} (xs : List X) (seen : List Entry → X → Bool) (j : List Entry)
    (e : Entry) : Type 0 where
  pub thing : X
  pub among : IsAmong thing xs
  pub before : seen j thing ≡ false
  pub now : seen (e ∷ j) thing ≡ true

-- what is said stays said, and an entry of the kind is such a first one
pub record Tells {X : Type 0} (xs : List X) (kind : Entry → Bool) (seen : List Entry → X → Bool)
    (j : List Entry) (e : Entry) : Type 0 where
  pub stays : (x : X) → seen j x ≡ true → seen (e ∷ j) x ≡ true
  pub first : kind e ≡ true → IsFirst xs seen j e

told : {X : Type 0} (xs : List X) (kind : Entry → Bool) (seen : List Entry → X → Bool)
    (j : List Entry) → AtEach (Tells xs kind seen) j
    → count_by kind j ≤ count_by (seen j) xs
told xs kind seen [] all = omega arith
told xs kind seen (e ∷ j) all =
    let before = told xs kind seen j all.0 in
    let count = count-cons kind e j in
    by_bool (kind e) (λ b. kind e ≡ b → count_by kind (e ∷ j) ≡ bit b + count_by kind j
    → count_by kind (e ∷ j) ≤ count_by (seen (e ∷ j)) xs)
    (λ _ yes here. let is = all.1.first yes in
    let more = count_more (seen j)
    (seen (e ∷ j)) all.1.stays xs is.thing is.among is.before is.now in
    omega (arith, before, here, more))
    (λ _ _ here. let more = count_le (seen j) (seen (e ∷ j)) all.1.stays xs in
    omega (arith, before, here, more))
    refl count

-- so there are no more of the kind than things
pub few : {X : Type 0} (xs : List X) (kind : Entry → Bool) (seen : List Entry → X → Bool)
    (j : List Entry) → AtEach (Tells xs kind seen) j
    → count_by kind j ≤ length xs
few xs kind seen j all =
    let some = told xs kind seen j all in
    let most = count_most (seen j) xs in
    omega (arith, some, most)

-- what is so of each entry with which a journal is still lawful
pub each_lawful : (p : Plan) (Q : List Entry → Entry → Type 0)
    → ((e : Entry) (j : List Entry) → Lawful p (e ∷ j) → Q j e) → (j : List Entry) → Lawful p j
    → AtEach Q j
each_lawful p Q f [] legal = tt
each_lawful p Q f (e ∷ j) legal = (each_lawful p Q f j legal.0, f e j legal)
