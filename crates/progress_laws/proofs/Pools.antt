-- The lines and pools of shared berths.
use Rattle.std.proofs.Common.{◌≡◌, ℕ, suc, ◌+◌, ◌-◌, ◌<◌, ◌/◌, nat_lt, Bool, true, false, cond, List, [], ◌∷◌, length, Option, Some, None, option_map, ◌⊎◌, inl, inr, refl, sym, ap, subst, ◌∙◌, arith}
use Rattle.std.specs.Prelude.{slice_get, sum_by}
use Rattle.std.proofs.lemmas.Bool.{eqb-true, ltb-false, or_cases}
use Rattle.std.proofs.lemmas.List.Sums.{sum_by-cons}
use Rattle.run_plan.specs.declared.plan.Plan.{Plan}
use Rattle.exec_journal.specs.Entry.{Entry}
use Rattle.exec_journal.specs.declared.attempt.Attempt.{Attempt}
use Rattle.exec_journal.specs.declared.reply.Reply.{Reply}
use Rattle.exec_journal.specs.declared.reply.Reply.TheVariants as reply
use Rattle.exec_journal.specs.Facts.{IsOfBerth}
use Rattle.exec_journal.specs.Lawful.{Lawful}
use Rattle.std.specs.List.{filter, list_any}
use Rattle.list_lemmas.specs.Options.{and_more}
use Rattle.exec_journal.specs.Entries.{launch_in}
use Rattle.exec_journal.specs.Facts.{reply_line, OfBerth}
use Rattle.exec_journal.proofs.Lines.{lines_named, of_berth_more}
use Rattle.exec_journal.proofs.Ruled.{by_bool}
use Rattle.placed_rules.specs.declared.pools.SharedPlan.{SharedPlan}
use Rattle.placed_rules.specs.declared.pools.SharedPool.{SharedPool}
use Rattle.placed_rules.specs.Pools.{pool_of, pool_from, pool_at, seats, same_pool}
use Rattle.placed_rules.specs.Needs as ne

-- ---- lists

abbrev pub Member : {X : Type 0} → X → List X → Type 0
Member x [] = ⊥
Member x (y ∷ ys) = (x ≡ y) ⊎ Member x ys

pub any_member : {X : Type 0} (f : X → Bool) (xs : List X) → list_any f xs ≡ true → (x : X)
    × Member x xs × (f x ≡ true)
any_member f [] h = absurd (cc)
any_member f (x ∷ xs) h = elim (or_cases (f x) _ h) [
  | inl here ↦ (x, inl refl, here)
  | inr more ↦ (let found = any_member f xs more in (found.0, inr found.1, found.2))
]

pub in_filter : {X : Type 0} (f : X → Bool) (xs : List X) (x : X) → Member x (filter f xs)
    → Member x xs × (f x ≡ true)
in_filter f [] x m = absurd m
in_filter f (y ∷ ys) x m =
    by_bool (f y) (λ b. f y ≡ b → Member x (cond b (y ∷ filter f ys) (filter f ys))
    → Member x (y ∷ ys) × (f x ≡ true))
    (λ _ on n. kept on n (λ z. in_filter f ys x z)) (λ
    _ _ n. (let more = in_filter f ys x n in (inr more.0, more.1))) refl m
  where
    kept : f y ≡ true → (x ≡ y) ⊎ Member x (filter f ys)
        → (Member x (filter f ys) → Member x ys × (f x ≡ true)) → Member x (y ∷ ys) × (f x ≡ true)
    kept on (inl same) ih = (inl same, ap f same ∙ on)
    kept on (inr more) ih = (let z = ih more in (inr z.0, z.1))

pub none_kept : {X : Type 0} (f : X → Bool) (xs : List X) → ((x : X) → Member x xs → f x ≡ false)
    → length (filter f xs) ≡ 0
none_kept f [] h = refl
none_kept f (x ∷ xs) h = rw (h x (inl refl)) (none_kept f xs (λ y m. h y (inr m)))

-- ---- all lines

launch_names : (x : Reply) (y : ℕ × Attempt) → launch_in x ≡ Some y → reply_line x ≡ Some y.0
launch_names (reply.Launch l a b t) y h = ap (option_map (λ z. z.0)) h
launch_names _ y h = absurd (cc)

new_line : (p : Plan) (e : Entry) (j : List Entry) (x : ℕ × ℕ) → Lawful p (e ∷ j)
    → ne.line_with e ≡ Some x → IsOfBerth (e ∷ j) x.1 x.0
new_line p e j x legal h = by (launch_in e.reply) refl h
  where
    by : (q : Option (ℕ × Attempt)) → launch_in e.reply ≡ q
        → option_map (λ y. (e.lane / 2, y.0)) q ≡ Some x → IsOfBerth (e ∷ j) x.1 x.0
    by None is k1 = absurd (cc)
    by (Some y) is k1 =
        let same : (e.lane / 2, y.0) ≡ x = cc in
        let own : IsOfBerth (e ∷ j) y.0 (e.lane / 2) =
        subst (λ (z : Option ℕ). OfBerth (e ∷ j) z (e.lane / 2)) (launch_names e.reply y is)
        (lines_named p (e ∷ j) legal).1.replied in
        subst (λ (z : ℕ × ℕ). IsOfBerth (e ∷ j) z.1 z.0) same own

one_more : {X : Type 0} (q : Option X) (x : X) (xs : List X) → Member x (and_more q xs)
    → (q ≡ Some x) ⊎ Member x xs
one_more None x xs m = inr m
one_more (Some y) x xs (inl same) = inl (ap Some (sym same))
one_more (Some y) x xs (inr more) = inr more

pub line_own : (p : Plan) (j : List Entry) (x : ℕ × ℕ) → Lawful p j → Member x (ne.all_lines j)
    → IsOfBerth j x.1 x.0
unfolding ne.all_lines
line_own p [] x legal at = absurd at
line_own p (e ∷ j) x legal at = elim (one_more (ne.line_with e) x (ne.all_lines j) at) [
  | inl now ↦ new_line p e j x legal now
  | inr before ↦ of_berth_more e j x.1 x.0 (lines_named p (e ∷ j) legal).1.numbered
      (line_own p j x legal.0 before)
]

-- ---- pools

pool_there : (xs : List SharedPool) (w : ℕ) → w < sum_by (λ x. x.berths) xs → (z : SharedPool)
    × (pool_from xs w ≡ Some z)
pool_there [] w lt = absurd (omega (arith, lt))
pool_there (x ∷ xs) w lt =
    by_bool (nat_lt w x.berths) (λ b. nat_lt w x.berths ≡ b → (z : SharedPool)
    × (cond b (Some x) (pool_from xs (w - x.berths)) ≡ Some z))
    (λ _ _. (x, refl)) (λ _ above. pool_there xs (w - x.berths)
    (let le = ltb-false w x.berths above in let s = sum_by-cons
    (λ (y : SharedPool). y.berths) x xs in omega (arith, s, le, lt))) refl

from_place : (xs : List SharedPool) (p w : ℕ) (pool : SharedPool) → pool_from xs w ≡ Some pool
    → (n : ℕ) × (pool_at xs p w ≡ p + n) × (slice_get xs n ≡ Some pool)
from_place [] p w pool h = absurd (cc)
from_place (x ∷ xs) p w pool h =
    by_bool (nat_lt w x.berths) (λ b. cond b (Some x) (pool_from xs (w - x.berths)) ≡ Some pool
    → (n : ℕ) × (cond b p (pool_at xs (suc p) (w - x.berths)) ≡ p + n)
    × (slice_get (x ∷ xs) n ≡ Some pool))
    (λ _ e. let same : p ≡ p + 0 = omega arith in (0, same, e))
    (λ _ e. let later = from_place xs (suc p) (w - x.berths) pool e in
    let same : suc p + later.0 ≡ p + suc later.0 =
    omega arith in (suc later.0, later.1 ∙ same, later.2)) h

-- berths of the same place have the same pool
pub pool_same : (s : SharedPlan) (v w : ℕ) (pool : SharedPool) → v < seats s
    → pool_of s w ≡ Some pool → same_pool s v w ≡ true → pool_of s v ≡ Some pool
pool_same s v w pool lt at h =
    let z = pool_there s.pools v lt in
    let a = from_place s.pools 0 v z.0 z.1 in
    let b = from_place s.pools 0 w pool at in
    let places = eqb-true (pool_at s.pools 0 v) (pool_at s.pools 0 w) h in
    let same : a.0 ≡ b.0 = omega (arith, places, a.1, b.1) in
    let both : Some z.0 ≡ Some pool = sym a.2 ∙ ap (slice_get s.pools) same ∙ b.2 in
    z.1 ∙ both
