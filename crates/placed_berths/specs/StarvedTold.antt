-- Which groups of a pool are starved by the tables, and what is launched for them, is as the rule has
-- it.
use Rattle.std.proofs.Common.{◌≡◌, ℕ, zero, suc, ◌+◌, ◌<◌, ◌==◌, nat_lt, Bool, true, false, ◌&&◌, not, cond, List, [], ◌∷◌, length, Option, Some, None, is_some, option_map, unwrap_or, refl, ap, sym, subst, ◌∙◌, arith}
use Rattle.std.specs.Prelude.{option_and_then, slice_get}
use Rattle.std.proofs.lemmas.Bool.{and_parts, eq-eqb}
use Rattle.std.proofs.lemmas.Option.{slice_get_within}
use Rattle.run_plan.specs.declared.plan.Branch.{Branch}
use Rattle.run_plan.specs.declared.plan.Branch.TheVariants.{Local, Remote}
use Rattle.run_plan.specs.declared.plan.Plan.{Plan}
use Rattle.run_plan.specs.declared.plan.PlanAction.{PlanAction}
use Rattle.run_plan.specs.Groups.{group_of}
use Rattle.list_lemmas.specs.Options.{or_else}
use Rattle.exec_journal.specs.declared.attempt.Attempt.{Attempt}
use Rattle.exec_journal.specs.Attempts.{attempt}
use Rattle.exec_journal.specs.Entry.{Entry}
use Rattle.exec_journal.specs.Entries.{attempt_of}
use Rattle.exec_journal.specs.Rules.{when}
use Rattle.exec_journal.specs.Settled.{queued, uses}
use Rattle.exec_journal.proofs.Ruled.{by_bool}
use Rattle.ready_order.specs.Stands as queues
use Rattle.core_state.specs.declared.state.State.{State}
use Rattle.core_contract.specs.Disciplines.{LegalBy}
use Rattle.core_laws.specs.Stands.{Stands}
use Rattle.earliest_first.specs.Choices.{next_of}
use Rattle.earliest_first.proofs.Queued.{number_next}
use Rattle.placed_rules.specs.declared.pools.SharedPlan.{SharedPlan}
use Rattle.placed_rules.specs.declared.pools.SharedPool.{SharedPool}
use Rattle.placed_rules.specs.Due as de
use Rattle.placed_rules.specs.Needs as needs
use Rattle.placed_rules.specs.Placed.{pooled_discipline, seats_with}
use Rattle.placed_rules.specs.Pools.{has_group, seats}
use Rattle.placed_rules.specs.Shared as rule
use Rattle.placed_rules.proofs.Nexts.{due_queued}
use Rattle.shared_laws.proofs.NextStarved as without
use Rattle.placed_berths.specs.Counts.{Facts}
use Rattle.placed_berths.specs.Due as c
use Rattle.placed_berths.specs.DueTold.{apart, branch_is, due_some}
use Rattle.placed_berths.specs.Pooled as own
use Rattle.placed_berths.specs.PoolLines.{held_at, pools_free, pools_held}
use Rattle.placed_berths.specs.Stands.{DelayStands, StandsFor}
use Rattle.placed_berths.specs.Walked.{some_first}

-- ---- which groups are starved

module _ (q : SharedPlan) (ticks : Option ℕ) (d : Option Facts) (s : State) (j : List Entry)
    (st : Stands q.plan (seats_with ticks (seats q)) s j)
    (legal : LegalBy (pooled_discipline q ticks) j) (so : DelayStands q.plan ticks d j) where
  pub lacks_is : (pool : SharedPool) (g : ℕ) → own.lacks_line q s pool g
      ≡ (needs.none_free q j g && nat_lt (needs.lines_held q j g) (needs.most_lines q pool g))
  lacks_is pool g = λ i. pools_free q ticks s j st legal g i
      && nat_lt (pools_held q ticks s j st legal g i) (needs.most_lines q pool g)

  pub starved_is : (pool : SharedPool) (g : ℕ)
      → own.is_starved q d s pool g ≡ needs.is_starved q ticks j pool g
  unfolding needs.is_starved
  starved_is pool g =
      λ i. due_some q.plan (seats_with ticks (seats q)) s j st ticks d so g i && lacks_is pool g i

-- ---- what is launched where a branch may wait

-- the first of two branches, with their numbers
either : (h : ℕ × Branch → Attempt) (a : ℕ) (o r : Option Branch)
    → option_map h (option_map (λ b. (a, b)) (or_else o r))
    ≡ or_else (option_map h (option_map (λ b. (a, b)) o))
    (option_map h (option_map (λ b. (a, b)) r))
either h a None r = refl
either h a (Some b) r = refl

further : (h : ℕ × Branch → Attempt) (o r : Option (ℕ × Branch))
    → option_map h (or_else o r) ≡ or_else (option_map h o) (option_map h r)
further h None r = refl
further h (Some x) r = refl

when_is : (b : Bool) (t : Attempt) → cond b (Some t) None ≡ when b t
when_is true t = refl
when_is false t = refl

module _ (q : SharedPlan) (n : ℕ) (f : Facts) (s : State) (j : List Entry)
    (st : Stands q.plan (suc (seats q)) s j)
    (legal : LegalBy (pooled_discipline q (Some n)) j) (so : StandsFor q.plan n f j)
    (pool : SharedPool) where
  abbrev p : Plan
  p = q.plan

  abbrev numbered : ℕ → Option Branch → Option Attempt
  numbered a o = option_map (next_of s) (option_map {U = ℕ × Branch} (λ b. (a, b)) o)

  module _ (a : ℕ) (x : PlanAction) (at : slice_get p.actions a ≡ Some x) where
    abbrev next_branch : Branch → Attempt
    next_branch b = attempt_of a b (attempt j a b + 1)

    used : (b : Branch) (g : ℕ) → group_of x b ≡ Some g → uses x b g ≡ true
    used b g runs = ap (λ (o : Option ℕ). unwrap_or (option_map (λ k. k == g) o) false) runs
        ∙ eq-eqb g g refl

    -- by the group that runs the branch: it goes where the branch is due
    due_by : (b : Branch) (g : ℕ) → group_of x b ≡ Some g
        → de.delayed_in p n j g a x ≡ when (de.is_due p (Some n) j a b x) (next_branch b)
    due_by Local g runs =
        let local = used Local g runs in
        let remote = apart p g a x st.sound at local in
        (λ i. cond (local i && de.is_due p (Some n) j a Local x) (Some (next_branch Local))
        (cond (remote i && queued p j a Remote x) (Some (next_branch Remote)) None))
        ∙ when_is (de.is_due p (Some n) j a Local x) (next_branch Local)
    due_by Remote g runs =
        let remote = used Remote g runs in
        let local : uses x Local g ≡ false = by_bool (uses x Local g) (λ b. uses x Local g ≡ b
        → b ≡ false)
        (λ yes _. absurd (let no = apart p g a x st.sound at yes in cc)) (λ _ _. refl) refl in
        (λ i. cond (local i && de.is_due p (Some n) j a Local x) (Some (next_branch Local))
        (cond (remote i && queued p j a Remote x) (Some (next_branch Remote)) None))
        ∙ when_is (queued p j a Remote x) (next_branch Remote)

    branch_eq : (b : Branch) (g : ℕ) → group_of x b ≡ Some g
        → option_map {U = ℕ × Branch} (λ e. (a, e)) (c.branch_at f s g a)
        ≡ queues.branch_of (when (de.is_due p (Some n) j a b x) (next_branch b))
    branch_eq b g runs = branch_is p n (suc (seats q)) f s j st so a x at g
        ∙ ap queues.branch_of (due_by b g runs)

    number_eq : (b : Branch) (g : ℕ) → group_of x b ≡ Some g
        → de.is_due p (Some n) j a b x ≡ true → next_of s (a, b) ≡ next_branch b
    number_eq b g runs due =
        number_next p j s.attempts g (next_branch b) st.attempts (record {
          action = x;
          place = at;
          group = used b g runs;
          waiting = due_queued p (Some n) j a b x due;
          number = refl;
        })

    numbered_eq : (b : Branch) (g : ℕ) → group_of x b ≡ Some g
        → numbered a (c.branch_at f s g a)
        ≡ when (de.is_due p (Some n) j a b x) (next_branch b)
    numbered_eq b g runs =
        ap (option_map (next_of s)) (branch_eq b g runs)
        ∙ by_bool (de.is_due p (Some n) j a b x) (λ due. de.is_due p (Some n) j a b x ≡ due
        → option_map (next_of s) (queues.branch_of (when due (next_branch b)))
        ≡ when due (next_branch b))
        (λ yes _. ap Some (number_eq b g runs yes)) (λ _ _. refl) refl

    -- where it is due, its group is starved where it lacks a line
    starved_eq : (b : Branch) (g : ℕ) → group_of x b ≡ Some g
        → de.is_due p (Some n) j a b x ≡ true
        → needs.is_starved q (Some n) j pool g ≡ own.lacks_line q s pool g
    starved_eq b g runs due =
        let here = known (c.branch_at f s g a) b (branch_eq b g runs
        ∙ ap (λ v. queues.branch_of (when v (next_branch b))) due) in
        let within = slice_get_within p.actions a x at in
        let many = ap (λ (z : Plan). length z.actions) st.plan in
        sym (starved_is q (Some n) (Some f) s j st legal so pool g)
        ∙ ap (λ v. v && own.lacks_line q s pool g)
        (some_first (c.branch_at f s g) 0 (length s.plan.actions) a b (omega arith)
        (omega (arith, within, many)) here)
      where
        known : (o : Option Branch) (e : Branch)
            → option_map {U = ℕ × Branch} (λ v. (a, v)) o ≡ Some (a, e) → o ≡ Some e
        known None e h = absurd (cc)
        known (Some v) e h = ap (λ (o : Option (ℕ × Branch)). option_map (λ y. y.1) o) h

    -- one branch
    side : (b : Branch) (o : Option ℕ) → group_of x b ≡ o
        → numbered a (option_and_then (own.lacking_in q f s pool a) o)
        ≡ rule.starved_branch q (Some n) j pool a b x o
    side b None runs = refl
    side b (Some g) runs =
        carried (has_group pool g && own.lacks_line q s pool g) (c.branch_at f s g a)
        (numbered_eq b g runs)
        ∙ merged (has_group pool g) (own.lacks_line q s pool g) (de.is_due p (Some n) j a b x)
        (needs.is_starved q (Some n) j pool g) (next_branch b) (starved_eq b g runs)
      where
        carried : (v : Bool) (o : Option Branch) {t : Option Attempt} → numbered a o ≡ t
            → numbered a (cond v o None) ≡ cond v t None
        carried true o h = h
        carried false o h = refl

        merged : (h l d v : Bool) (y : Attempt) → (d ≡ true → v ≡ l)
            → cond (h && l) (when d y) None ≡ when (h && (d && v)) y
        merged false l d v y same = refl
        merged true true true v y same = ap (λ k. when k y) (sym (same refl))
        merged true false true v y same = ap (λ k. when k y) (sym (same refl))
        merged true true false v y same = refl
        merged true false false v y same = refl

    action_eq : numbered a (own.lacking_at q f s pool a)
        ≡ rule.starved_in q (Some n) j pool a x
    action_eq =
        ap (λ (z : Plan). numbered a (option_and_then (own.lacking_of q f s pool a)
        (slice_get z.actions a))) st.plan
        ∙ ap (λ (o : Option PlanAction). numbered a
        (option_and_then (own.lacking_of q f s pool a) o)) at
        ∙ either (next_of s) a (option_and_then (own.lacking_in q f s pool a) x.local)
        (option_and_then (own.lacking_in q f s pool a) x.remote)
        ∙ (λ i. or_else (side Local x.local refl i) (side Remote x.remote refl i))

  walk : (a : ℕ) (xs : List PlanAction)
      → ((i : ℕ) (x : PlanAction) → slice_get xs i ≡ Some x
      → slice_get p.actions (a + i) ≡ Some x)
      → option_map (next_of s) (c.first_among (own.lacking_at q f s pool) a (length xs))
      ≡ rule.starved_from q (Some n) j pool a xs
  walk a [] at = refl
  walk a (x ∷ xs) at =
      let e : a + 0 ≡ a = omega arith in
      let first = action_eq a x (subst (λ k. slice_get p.actions k ≡ Some x) e (at 0 x refl)) in
      let rest = walk (a + 1) xs (λ i y h. let k : a + suc i ≡ a + 1 + i = omega arith in
      subst (λ m. slice_get p.actions m ≡ Some y) k (at (suc i) y h)) in
      further (next_of s) (option_map (λ b. (a, b)) (own.lacking_at q f s pool a))
      (c.first_among (own.lacking_at q f s pool) (a + 1) (length xs))
      ∙ (λ i. or_else (first i) (rest i))

  delayed_is : own.next_starved q (Some f) s pool ≡ rule.next_starved q (Some n) j pool
  unfolding rule.next_starved
  delayed_is =
      ap (λ (z : Plan). option_map (next_of s)
      (c.first_among (own.lacking_at q f s pool) 0 (length z.actions))) st.plan
      ∙ walk 0 p.actions (λ i x h. let k : i ≡ 0 + i = omega arith in
      subst (λ m. slice_get p.actions m ≡ Some x) k h)

-- ---- with Ticks and without

pub next_is : (q : SharedPlan) (ticks : Option ℕ) (d : Option Facts) (s : State) (j : List Entry)
    → Stands q.plan (seats_with ticks (seats q)) s j → LegalBy (pooled_discipline q ticks) j
    → DelayStands q.plan ticks d j → (pool : SharedPool)
    → own.next_starved q d s pool ≡ rule.next_starved q ticks j pool
next_is q None None s j st legal so pool =
    without.next_is_told q s j st (held_at q (seats q) s j st) pool
next_is q (Some n) (Some f) s j st legal so pool = delayed_is q n f s j st legal so pool
next_is q None (Some f) s j st legal so pool = absurd so
next_is q (Some n) None s j st legal so pool = absurd so
