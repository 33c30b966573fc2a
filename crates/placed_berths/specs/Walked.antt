-- The walks over the actions, a step at a time, and over those that are marked.
use Rattle.std.proofs.Common.{◌≡◌, ℕ, zero, suc, ◌+◌, ◌-◌, ◌<◌, ◌≤◌, ◌==◌, true, false, ◌||◌, cond, List, length, Option, Some, None, is_some, option_map, unwrap_or, refl, ap, sym, subst, ◌∙◌, arith}
use Rattle.std.specs.Prelude.{option_and_then, slice_get}
use Rattle.std.proofs.lemmas.Bool.{eqb-false, eqb-true}
use Rattle.run_plan.specs.declared.plan.Branch.{Branch}
use Rattle.run_plan.specs.declared.plan.Branch.TheVariants.{Local, Remote}
use Rattle.exec_journal.proofs.Ruled.{by_bool}
use Rattle.list_lemmas.specs.Options.{or_else}
use Rattle.ready_order.specs.declared.ActionState.{ActionState}
use Rattle.ready_order.specs.Queue.{is_queued, may_begin, queued_at, queued_branch, seat_of}
use Rattle.core_state.specs.declared.state.State.{State}
use Rattle.placed_berths.specs.Due.{branch_at, first_among, has_waited, if_goes, some_among, waits_at}
use Rattle.placed_berths.specs.Counts.{Facts, is_marked}

-- where nothing of the action is queued in the group, no branch of it goes
none_of : (states : List ActionState) (g a : ℕ) (o : Option ActionState)
    → slice_get states a ≡ o → ((b : Branch) → is_queued states g a b ≡ false)
    → option_and_then (queued_branch states g) o ≡ None
none_of states g a None at none = refl
none_of states g a (Some x) at none =
    let is : (b : Branch) → may_begin states g x (seat_of b x) ≡ false =
    λ b. sym (ap (λ (o : Option ActionState). unwrap_or
    (option_map (λ y. may_begin states g y (seat_of b y)) o) false) at) ∙ none b in
    λ i. cond (is Local i) (Some Local) (cond (is Remote i) (Some Remote) None)

pub none_queued : (states : List ActionState) (g a : ℕ)
    → ((b : Branch) → is_queued states g a b ≡ false) → queued_at states g a ≡ None
none_queued states g a none = none_of states g a (slice_get states a) refl none

pub none_goes : (f : Facts) (s : State) (g a : ℕ)
    → ((b : Branch) → is_queued s.ready g a b ≡ false) → branch_at f s g a ≡ None
none_goes f s g a none = ap (if_goes (has_waited f s a)) (none_queued s.ready g a none)

-- what is found stands at one of them
pub record IsFound (here : ℕ → Option Branch) (a n : ℕ) (x : ℕ × Branch) : Type 0 where
  pub low : a ≤ x.0
  pub high : x.0 < a + n
  pub at : here x.0 ≡ Some x.1

module _ (here : ℕ → Option Branch) where
  abbrev at : ℕ → Option (ℕ × Branch)
  at a = option_map (λ b. (a, b)) (here a)

  pub first_step : (a n : ℕ) → a < n → first_among here a (n - a)
      ≡ or_else (at a) (first_among here (a + 1) (n - (a + 1)))
  first_step a n lt =
      let e : n - a ≡ suc (n - (a + 1)) = omega (arith, lt) in ap (first_among here a) e

  pub none_among : (a n : ℕ) → ((c : ℕ) → here c ≡ None) → first_among here a n ≡ None
  none_among a zero none = refl
  none_among a (suc n) none =
      ap (λ (o : Option Branch). or_else (option_map (λ b. (a, b)) o) (first_among here (a + 1) n))
      (none a) ∙ none_among (a + 1) n none

  -- the first m actions from a on may be left out, where they have no branch
  skips : (a m n : ℕ) → ((c : ℕ) → a ≤ c → c < a + m → here c ≡ None)
      → first_among here a (m + n) ≡ first_among here (a + m) n
  skips a zero n none =
      let e : a ≡ a + 0 = omega arith in
      let k : 0 + n ≡ n = omega arith in
      λ i. first_among here (e i) (k i)
  skips a (suc m) n none =
      let k : suc m + n ≡ suc (m + n) = omega arith in
      let e : a + 1 + m ≡ a + suc m = omega arith in
      ap (first_among here a) k
      ∙ ap (λ (o : Option Branch). or_else (option_map (λ b. (a, b)) o)
      (first_among here (a + 1) (m + n))) (none a (omega arith) (omega arith))
      ∙ skips (a + 1) m n (λ c le lt. none c (omega (arith, le)) (omega (arith, lt)))
      ∙ ap (λ c. first_among here c n) e

  -- those from a to b may be left out
  pub passes : (a b n : ℕ) → a ≤ b → b ≤ n
      → ((c : ℕ) → a ≤ c → c < b → here c ≡ None)
      → first_among here b (n - b) ≡ first_among here a (n - a)
  passes a b n low high none =
      let m : ℕ = b - a in
      let e : a + m ≡ b = omega (arith, low) in
      let k : m + (n - b) ≡ n - a = omega (arith, low, high) in
      sym (ap (first_among here a) (sym k)
      ∙ skips a m (n - b) (λ c le lt. none c le (omega (arith, lt, low)))
      ∙ ap (λ c. first_among here c (n - b)) e)

  pub first_from : (m n : ℕ) → m ≤ n → ((c : ℕ) → c < m → here c ≡ None)
      → first_among here m (n - m) ≡ first_among here 0 n
  first_from m n le none =
      let k : n - 0 ≡ n = omega arith in
      passes 0 m n (omega arith) le (λ c low lt. none c lt) ∙ ap (first_among here 0) k

  -- none is left
  pub none_left : (a n : ℕ) → a ≤ n → ((c : ℕ) → a ≤ c → c < n → here c ≡ None)
      → first_among here a (n - a) ≡ None
  none_left a n le none =
      let k : n - n ≡ 0 = omega arith in
      sym (passes a n n le (omega arith) none) ∙ ap (first_among here n) k

  pub first_found : (a n : ℕ) (x : ℕ × Branch) → first_among here a n ≡ Some x
      → IsFound here a n x
  first_found a zero x h = absurd (cc)
  first_found a (suc n) x h = by (here a) refl h (λ k. first_found (a + 1) n x k)
    where
      by : (o : Option Branch) → here a ≡ o
          → or_else (option_map {U = ℕ × Branch} (λ b. (a, b)) o) (first_among here (a + 1) n)
          ≡ Some x → (first_among here (a + 1) n ≡ Some x → IsFound here (a + 1) n x)
          → IsFound here a (suc n) x
      by None is k rest =
          let later = rest k in
          let low = later.low in let high = later.high in record {
            low = omega (arith, low);
            high = omega (arith, high);
            at = later.at;
          }
      by (Some b) is k rest =
          let same : (a, b) ≡ x = cc in
          subst (IsFound here a (suc n)) same
          (record { low = omega arith; high = omega arith; at = is })

  -- where one has a branch, one is found
  pub some_first : (a n c : ℕ) (b : Branch) → a ≤ c → c < a + n → here c ≡ Some b
      → is_some (first_among here a n) ≡ true
  some_first a zero c b low high is = absurd (omega (arith, low, high))
  some_first a (suc n) c b low high is =
      by_bool (a == c) (λ _. is_some (first_among here a (suc n)) ≡ true)
      (λ yes. ap (λ (o : Option Branch). is_some (or_else (option_map (λ d. (a, d)) o)
      (first_among here (a + 1) n))) (ap here (eqb-true a c yes) ∙ is))
      (λ no. by (here a) (let other = eqb-false a c no in
      some_first (a + 1) n c b (omega (arith, low, other)) (omega (arith, high)) is))
    where
      by : (o : Option Branch) → is_some (first_among here (a + 1) n) ≡ true
          → is_some (or_else (option_map {U = ℕ × Branch} (λ d. (a, d)) o)
          (first_among here (a + 1) n)) ≡ true
      by None later = later
      by (Some d) later = refl

module _ (f : Facts) (s : State) where
  pub some_step : (a n : ℕ) → a < n → some_among f s a (n - a)
      ≡ (waits_at f s a || some_among f s (a + 1) (n - (a + 1)))
  some_step a n lt =
      let e : n - a ≡ suc (n - (a + 1)) = omega (arith, lt) in ap (some_among f s a) e

-- ---- marks

pub record NextMark (f : Facts) (from a : ℕ) : Type 0 where
  pub low : from ≤ a
  pub high : a < length f.marks
  pub passed : (c : ℕ) → from ≤ c → c < a → is_marked f c ≡ false

-- the least marked action from this one on
abbrev pub IsNextMark : Facts → ℕ → Option ℕ → Type 0
IsNextMark f from None = (c : ℕ) → from ≤ c → c < length f.marks → is_marked f c ≡ false
IsNextMark f from (Some a) = NextMark f from a
