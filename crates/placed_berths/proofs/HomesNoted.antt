-- What is noted of each group is the place of its pool.
use Rattle.std.proofs.Common.{◌≡◌, ℕ, zero, suc, ◌+◌, ◌<◌, ◌≤◌, ◌==◌, nat_lt, Bool, true, false, ◌||◌, cond, List, [], ◌∷◌, length, filter, Option, Some, None, option_map, unwrap_or, refl, ap, sym, ◌∙◌, arith}
use Rattle.std.specs.Prelude.{slice_get, replicate}
use Rattle.std.specs.List.{list_all, list_any}
use Rattle.std.proofs.lemmas.Bool.{and_parts, eq-eqb, eqb-true, ltb-true, ltb-false, ne_eqb}
use Rattle.std.proofs.lemmas.Option.{same_Some}
use Rattle.list_lemmas.specs.Places.{update}
use Rattle.list_lemmas.proofs.Updates.{get_update, get_replicate}
use Rattle.exec_journal.proofs.Ruled.{by_bool}
use Rattle.placed_rules.specs.declared.pools.SharedPool.{SharedPool}
use Rattle.placed_rules.specs.Pools.{has_group}
use Rattle.placed_berths.specs.Homes.{AreHomes, StandOnce, homes_from, with_homes}

-- ---- one group's place, pool by pool

-- a place, where one was noted
abbrev noted : ℕ → Option ℕ → Option ℕ
noted p o = option_map (λ _. p) o

-- the place of the last of these pools that has the group, else the one before
abbrev home_from : List SharedPool → ℕ → ℕ → Option ℕ → Option ℕ
home_from [] p k o = o
home_from (x ∷ xs) p k o = home_from xs (suc p) k (cond (has_group x k) (noted p o) o)

twice : (p : ℕ) (a b : Bool) (o : Option ℕ)
    → cond a (noted p (cond b (noted p o) o)) (cond b (noted p o) o) ≡ cond (b || a) (noted p o) o
twice p true true None = refl
twice p true true (Some h) = refl
twice p true false o = refl
twice p false true o = refl
twice p false false o = refl

get_homes : (p : ℕ) (gs homes : List ℕ) (k : ℕ) → slice_get (with_homes p gs homes) k
    ≡ cond (list_any (λ g. g == k) gs) (noted p (slice_get homes k)) (slice_get homes k)
get_homes p [] homes k = refl
get_homes p (g ∷ gs) homes k =
    get_homes p gs (update (λ _. p) homes g) k
    ∙ ap (λ o. cond (list_any (λ g. g == k) gs) (noted p o) o) (get_update (λ _. p) homes g k)
    ∙ twice p (list_any (λ g. g == k) gs) (g == k) (slice_get homes k)

get_from : (xs : List SharedPool) (p : ℕ) (homes : List ℕ) (k : ℕ)
    → slice_get (homes_from xs p homes) k ≡ home_from xs p k (slice_get homes k)
get_from [] p homes k = refl
get_from (x ∷ xs) p homes k =
    get_from xs (suc p) (with_homes p x.groups homes) k
    ∙ ap (home_from xs (suc p) k) (get_homes p x.groups homes k)

-- ---- of pools of which so many have the group

abbrev count : ℕ → List SharedPool → ℕ
count k xs = length (filter (λ x. has_group x k) xs)

abbrev is_at : ℕ → Option ℕ → Bool
is_at n o = unwrap_or (option_map (λ h. h == n) o) false

past : (n i : ℕ) → n < i → (i == n) ≡ false
past n i lt = ne_eqb i n (λ same. omega (arith, lt, same))

before : (n i : ℕ) → i < n → (i == n) ≡ false
before n i lt = ne_eqb i n (λ same. omega (arith, lt, same))

-- none has it
stays : (k : ℕ) (xs : List SharedPool) (p : ℕ) (o : Option ℕ) → count k xs ≡ 0
    → home_from xs p k o ≡ o
stays k [] p o none = refl
stays k (x ∷ xs) p o none =
    by_bool (has_group x k) (λ b. length (cond b (x ∷ filter (λ y. has_group y k) xs)
    (filter (λ y. has_group y k) xs)) ≡ 0 → home_from xs (suc p) k (cond b (noted p o) o) ≡ o)
    (λ _ more. absurd (omega (arith, more))) (λ _ more. stays k xs (suc p) o more) none

without : (k : ℕ) (xs : List SharedPool) (i : ℕ) (x : SharedPool) → count k xs ≡ 0
    → slice_get xs i ≡ Some x → has_group x k ≡ false
without k [] i x none at = absurd (cc)
without k (y ∷ ys) i x none at =
    by_bool (has_group y k) (λ b. has_group y k ≡ b → length (cond b
    (y ∷ filter (λ z. has_group z k) ys) (filter (λ z. has_group z k) ys)) ≡ 0
    → has_group x k ≡ false)
    (λ _ _ more. absurd (omega (arith, more)))
    (λ _ no more. by (λ n. without k ys n x more) i at no) refl none
  where
    by : ((n : ℕ) → slice_get ys n ≡ Some x → has_group x k ≡ false) → (i : ℕ)
        → slice_get (y ∷ ys) i ≡ Some x → has_group y k ≡ false → has_group x k ≡ false
    by rest zero h off = ap (λ z. has_group z k) (sym (same_Some y x h)) ∙ off
    by rest (suc n) h off = rest n h

-- one has it: it is at no place before the first
from_here : (k : ℕ) (xs : List SharedPool) (p h : ℕ) → count k xs ≡ 1
    → (i : ℕ) × (p ≤ i) × (home_from xs p k (Some h) ≡ Some i)
from_here k [] p h one = absurd (omega (arith, one))
from_here k (x ∷ xs) p h one =
    by_bool (has_group x k) (λ b. length (cond b (x ∷ filter (λ y. has_group y k) xs)
    (filter (λ y. has_group y k) xs)) ≡ 1 → (i : ℕ) × (p ≤ i)
    × (home_from xs (suc p) k (cond b (Some p) (Some h)) ≡ Some i))
    (λ _ more. (p, omega arith, stays k xs (suc p) (Some p) (omega (arith, more))))
    (λ _ more. let later = from_here k xs (suc p) h more in
    let le = later.1 in (later.0, omega (arith, le), later.2)) one

only : (k : ℕ) (xs : List SharedPool) (p h i : ℕ) (x : SharedPool) → count k xs ≡ 1
    → slice_get xs i ≡ Some x → is_at (p + i) (home_from xs p k (Some h)) ≡ has_group x k
only k [] p h i x one at = absurd (cc)
only k (y ∷ ys) p h i x one at =
    by_bool (has_group y k) (λ b. has_group y k ≡ b → length (cond b
    (y ∷ filter (λ z. has_group z k) ys) (filter (λ z. has_group z k) ys)) ≡ 1
    → is_at (p + i) (home_from ys (suc p) k (cond b (Some p) (Some h))) ≡ has_group x k)
    (λ _ yes more. here i at yes (omega (arith, more)))
    (λ _ no more. there (λ n e. only k ys (suc p) h n x more e) i at no more) refl one
  where
    here : (i : ℕ) → slice_get (y ∷ ys) i ≡ Some x → has_group y k ≡ true → count k ys ≡ 0
        → is_at (p + i) (home_from ys (suc p) k (Some p)) ≡ has_group x k
    here zero e own more =
        ap (is_at (p + 0)) (stays k ys (suc p) (Some p) more)
        ∙ eq-eqb p (p + 0) (omega arith)
        ∙ sym (ap (λ z. has_group z k) (sym (same_Some y x e)) ∙ own)
    here (suc n) e own more =
        ap (is_at (p + suc n)) (stays k ys (suc p) (Some p) more)
        ∙ before (p + suc n) p (omega arith) ∙ sym (without k ys n x more e)

    there : ((n : ℕ) → slice_get ys n ≡ Some x
        → is_at (suc p + n) (home_from ys (suc p) k (Some h)) ≡ has_group x k) → (i : ℕ)
        → slice_get (y ∷ ys) i ≡ Some x → has_group y k ≡ false → count k ys ≡ 1
        → is_at (p + i) (home_from ys (suc p) k (Some h)) ≡ has_group x k
    there rest zero e off more =
        let later = from_here k ys (suc p) h more in
        let le = later.1 in
        ap (is_at (p + 0)) later.2
        ∙ past (p + 0) later.0 (omega (arith, le))
        ∙ sym (ap (λ z. has_group z k) (sym (same_Some y x e)) ∙ off)
    there rest (suc n) e off more =
        ap (λ m. is_at m (home_from ys (suc p) k (Some h)))
        (let same : p + suc n ≡ suc p + n = omega arith in same)
        ∙ rest n e

-- ---- a group past the named ones

unnoted : (xs : List SharedPool) (p k : ℕ) → home_from xs p k None ≡ None
unnoted [] p k = refl
unnoted (x ∷ xs) p k = ap (home_from xs (suc p) k) (by (has_group x k)) ∙ unnoted xs (suc p) k
  where
    by : (b : Bool) → cond b (noted p None) None ≡ None
    by true = refl
    by false = refl

-- one that stands among groups with a number below is below it
below : (n k : ℕ) (gs : List ℕ) → list_all (λ g. nat_lt g n) gs ≡ true
    → list_any (λ g. g == k) gs ≡ true → k < n
below n k [] all any = absurd (cc)
below n k (g ∷ gs) all any =
    let parts = and_parts (nat_lt g n) (list_all (λ i. nat_lt i n) gs) all in
    by_bool (g == k) (λ b. (b || list_any (λ i. i == k) gs) ≡ true → k < n)
    (λ yes _. let lt = ltb-true g n parts.0 in let same = eqb-true g k yes in
    omega (arith, lt, same))
    (λ _ more. below n k gs parts.1 more) any

nameless : (n k : ℕ) (xs : List SharedPool) (i : ℕ) (x : SharedPool)
    → list_all (λ y. list_all (λ g. nat_lt g n) y.groups) xs ≡ true → slice_get xs i ≡ Some x
    → n ≤ k → has_group x k ≡ false
nameless n k [] i x all at le = absurd (cc)
nameless n k (y ∷ ys) zero x all at le =
    let own = (and_parts (list_all (λ g. nat_lt g n) y.groups) _ all).0 in
    ap (λ z. has_group z k) (sym (same_Some y x at))
    ∙ by_bool (has_group y k) (λ b. b ≡ false)
    (λ yes. absurd (let lt = below n k y.groups own yes in omega (arith, lt, le))) (λ _. refl)
nameless n k (y ∷ ys) (suc i) x all at le =
    nameless n k ys i x (and_parts (list_all (λ g. nat_lt g n) y.groups) _ all).1 at le

-- ---- so of all groups

pub are_homes : (n : ℕ) (pools : List SharedPool) → StandOnce n pools
    → AreHomes pools (homes_from pools 0 (replicate n 0))
are_homes n pools sound p g pool at =
    ap (is_at p) (get_from pools 0 (replicate n 0) g
    ∙ ap (home_from pools 0 g) (get_replicate 0 n g))
    ∙ by_bool (nat_lt g n) (λ b. is_at p (home_from pools 0 g (cond b (Some 0) None))
    ≡ has_group pool g)
    (λ yes. ap (λ m. is_at m (home_from pools 0 g (Some 0)))
    (let same : p ≡ 0 + p = omega arith in same)
    ∙ only g pools 0 0 p pool (sound.once g (ltb-true g n yes)) at)
    (λ no. ap (is_at p) (unnoted pools 0 g)
    ∙ sym (nameless n g pools p pool sound.named at (ltb-false g n no)))
