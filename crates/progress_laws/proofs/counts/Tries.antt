-- The attempts that a plan allows, one by one; and each that was begun is one of them.
use Rattle.std.proofs.Common.{◌≡◌, ℕ, zero, suc, ◌+◌, ◌*◌, ◌≤◌, true, List, [], ◌∷◌, ◌++◌, length, Option, Some, None, inl, inr, refl, ap, subst, ◌∙◌, arith}
use Rattle.std.specs.Prelude.{slice_get, sum_by}
use Rattle.std.proofs.Math.Nat.{add-mul}
use Rattle.std.proofs.lemmas.Bool.{cases_lt}
use Rattle.std.proofs.lemmas.List.Sums.{sum_by-cons}
use Rattle.std.proofs.lemmas.List.{length-append}
use Rattle.run_plan.specs.declared.plan.Branch.{Branch}
use Rattle.run_plan.specs.declared.plan.Branch.TheVariants.{Local, Remote}
use Rattle.run_plan.specs.declared.plan.Plan.{Plan}
use Rattle.run_plan.specs.declared.plan.PlanAction.{PlanAction}
use Rattle.run_plan.specs.Groups.{group_of}
use Rattle.exec_journal.specs.declared.attempt.Attempt.{Attempt}
use Rattle.exec_journal.specs.Entry.{Entry}
use Rattle.exec_journal.specs.Entries.{attempt_of}
use Rattle.exec_journal.specs.Facts.{begun}
use Rattle.exec_journal.specs.Lawful.{Lawful}
use Rattle.exec_journal.specs.Settled.{one_if}
use Rattle.exec_journal.proofs.Begins.{attempts_in_order}
use Rattle.journal_laws.proofs.Firm as f
use Rattle.progress_laws.specs.Few.{most_tries}
use Rattle.progress_laws.proofs.counts.Tallies.{IsAmong, among_left, among_right}

-- those with the numbers from n down to 1
tries_to : ℕ → Branch → ℕ → List Attempt
tries_to a b zero = []
tries_to a b (suc n) = attempt_of a b (suc n) ∷ tries_to a b n

-- of a branch, where the action uses it
tries_on : ℕ → ℕ → Branch → Option ℕ → List Attempt
tries_on limit a b None = []
tries_on limit a b (Some g) = tries_to a b limit

-- of the actions from a on
tries_from : ℕ → ℕ → List PlanAction → List Attempt
tries_from limit a [] = []
tries_from limit a (x ∷ xs) =
    tries_on limit a Local x.local ++
    (tries_on limit a Remote x.remote ++ tries_from limit (suc a) xs)

pub tries : Plan → List Attempt
tries p = tries_from p.limit 0 p.actions

-- ---- how many there are

to_length : (a : ℕ) (b : Branch) (n : ℕ) → length (tries_to a b n) ≡ n
unfolding tries_to
to_length a b zero = refl
to_length a b (suc n) = let h = to_length a b n in omega (arith, h)

on_length : (limit a : ℕ) (b : Branch) (g : Option ℕ)
    → length (tries_on limit a b g) ≡ one_if g * limit
unfolding tries_on
on_length limit a b None = omega arith
on_length limit a b (Some g) = let h = to_length a b limit in omega (arith, h)

from_length : (limit a : ℕ) (xs : List PlanAction)
    → length (tries_from limit a xs) ≡ sum_by (λ x. one_if x.local + one_if x.remote) xs * limit
unfolding tries_from
from_length limit a [] = omega arith
from_length limit a (x ∷ xs) =
    let here = on_length limit a Local x.local in
    let there = on_length limit a Remote x.remote in
    let rest = from_length limit (suc a) xs in
    let first = length-append (tries_on limit a Local x.local)
    (tries_on limit a Remote x.remote ++ tries_from limit (suc a) xs) in
    let second = length-append (tries_on limit a Remote x.remote) (tries_from limit (suc a) xs) in
    let sum : sum_by (λ y. one_if y.local + one_if y.remote) (x ∷ xs) * limit
    ≡ (one_if x.local + one_if x.remote + sum_by
    (λ y. one_if y.local + one_if y.remote) xs) * limit =
    ap (λ k. k * limit) (sum_by-cons (λ (y : PlanAction). one_if y.local + one_if y.remote) x xs) in
    let parts = add-mul (one_if x.local + one_if x.remote)
    (sum_by (λ y. one_if y.local + one_if y.remote) xs) limit in
    let both = add-mul (one_if x.local) (one_if x.remote) limit in
    omega (arith, here, there, rest, first, second, sum, parts, both)

pub tries_length : (p : Plan) → length (tries p) ≡ most_tries p
unfolding tries
tries_length p = from_length p.limit 0 p.actions

-- ---- which they are

among_to : (a : ℕ) (b : Branch) (n limit : ℕ) → 1 ≤ n → n ≤ limit
    → IsAmong (attempt_of a b n) (tries_to a b limit)
unfolding tries_to
among_to a b n zero least most = absurd (omega (arith, least, most))
among_to a b n (suc limit) least most = elim (cases_lt limit n) [
  | inl high ↦ inl (let same : suc limit ≡ n = omega (arith, most, high) in
      ap (λ i. attempt_of a b i) same)
  | inr low ↦ inr (among_to a b n limit least (omega (arith, low)))
]

among_on : (limit a : ℕ) (b : Branch) (g : ℕ) (o : Option ℕ) (n : ℕ) → o ≡ Some g → 1 ≤ n
    → n ≤ limit → IsAmong (attempt_of a b n) (tries_on limit a b o)
unfolding tries_on
among_on limit a b g None n uses least most = absurd (cc)
among_on limit a b g (Some h) n uses least most = among_to a b n limit least most

among_from : (limit m : ℕ) (xs : List PlanAction) (i a : ℕ) (x : PlanAction) (b : Branch) (g n : ℕ)
    → m + i ≡ a → slice_get xs i ≡ Some x
    → group_of x b ≡ Some g → 1 ≤ n → n ≤ limit → IsAmong (attempt_of a b n) (tries_from limit m xs)
unfolding tries_from
among_from limit m [] i a x b g n is at uses least most = absurd (cc)
among_from limit m (y ∷ ys) zero a x Local g n is at uses least most =
    let same : y ≡ x = cc in
    let here : m ≡ a = omega (arith, is) in
    among_left _ (tries_on limit m Local y.local) _
    (subst (λ k. IsAmong (attempt_of k Local n) (tries_on limit m Local y.local)) here
    (among_on limit m Local g y.local n (ap (λ (z : PlanAction). z.local) same ∙ uses) least most))
among_from limit m (y ∷ ys) zero a x Remote g n is at uses least most =
    let same : y ≡ x = cc in
    let here : m ≡ a = omega (arith, is) in
    among_right _ (tries_on limit m Local y.local) _
    (among_left _ (tries_on limit m Remote y.remote) _
    (subst (λ k. IsAmong (attempt_of k Remote n) (tries_on limit m Remote y.remote)) here
    (among_on limit m Remote g y.remote n (ap (λ (z : PlanAction). z.remote) same
    ∙ uses) least most)))
among_from limit m (y ∷ ys) (suc i) a x b g n is at uses least most =
    among_right _ (tries_on limit m Local y.local) _
    (among_right _ (tries_on limit m Remote y.remote) _
    (among_from limit (suc m) ys i a x b g n (omega (arith, is)) at uses least most))

-- each attempt that was begun
pub begun_among : (p : Plan) (j : List Entry) (t : Attempt) → 1 ≤ p.limit → Lawful p j
    → begun j t ≡ true → IsAmong t (tries p)
unfolding tries
begun_among p j t least legal start =
    let has = f.going_ready_at p j t legal start in
    let order = attempts_in_order p j legal in
    let range = order.numbered t start in
    let most = order.limited t.action t.branch least in
    among_from p.limit 0 p.actions t.action t.action has.action t.branch has.group t.number
    (omega arith) has.place has.runs
    range.0 (omega (arith, range.1, most))
