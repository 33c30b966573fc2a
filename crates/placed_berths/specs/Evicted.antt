-- Which line is given up, by the tables and by the journal, with Ticks and without.
use Rattle.std.proofs.Common.{◌≡◌, ℕ, zero, suc, ◌<◌, ◌==◌, nat_lt, Bool, true, false, ◌&&◌, ◌||◌, not, List, [], ◌∷◌, Option, Some, None, is_none, option_map, unwrap_or, ◌⊎◌, inl, inr, refl, sym, ap, subst, ◌∙◌, arith}
use Rattle.std.specs.List.{list_any}
use Rattle.std.proofs.lemmas.Bool.{eqb-true, eq-eqb, lt-ltb, le-ltb, ltb-true, ltb-false, and_parts, and_from, or_cases, or_left, or_right}
use Rattle.exec_journal.specs.Entry.{Entry}
use Rattle.exec_journal.specs.Facts.{IsOfBerth}
use Rattle.exec_journal.specs.Words.{last_line, started, failed, has_ended, was_killed, live}
use Rattle.exec_journal.proofs.Ruled.{by_bool, not_true}
use Rattle.journal_laws.proofs.Claims as c
use Rattle.journal_laws.proofs.Claims.{clash, false_by}
use Rattle.journal_laws.proofs.Vacant as va
use Rattle.core_state.specs.declared.state.State.{State}
use Rattle.core_contract.specs.Disciplines.{LegalBy}
use Rattle.core_laws.specs.Stands.{Stands}
use Rattle.placed_rules.specs.declared.pools.SharedPlan.{SharedPlan}
use Rattle.placed_rules.specs.declared.pools.SharedPool.{SharedPool}
use Rattle.placed_rules.specs.Due.{next_due}
use Rattle.placed_rules.specs.Needs as needs
use Rattle.placed_rules.specs.Needs.{all_lines, silent_for}
use Rattle.placed_rules.specs.Placed.{pooled_discipline, seats_with}
use Rattle.placed_rules.specs.Pools.{same_pool, seats}
use Rattle.shared_laws.specs.Berths.{group_at, line_is_killed, some_vacant}
use Rattle.shared_laws.specs.Spoken.{IsSpoken, is_before}
use Rattle.shared_laws.proofs.AllLines.{last_among, line_own}
use Rattle.shared_laws.proofs.Held.{killed_started}
use Rattle.shared_laws.proofs.Lines as li
use Rattle.shared_laws.proofs.Members.{any_member, member_any}
use Rattle.placed_berths.specs.Counts.{Facts}
use Rattle.placed_berths.specs.DueTold.{due_none}
use Rattle.placed_berths.specs.Pooled.{goes_before, is_starved, may_evict, may_go, some_before}
use Rattle.placed_berths.specs.PoolLines.{as_pool, line_within, one_pool, vacant_is}
use Rattle.placed_berths.specs.StarvedTold.{starved_is}
use Rattle.placed_berths.specs.Stands.{DelayStands}

-- ---- of the tables one of the first berths

module _ (q : SharedPlan) (d : Option Facts) (s : State) (ws : List ℕ) (w : ℕ) where
  abbrev goes : ℕ → Bool
  goes v = same_pool q v w && goes_before d s ws w v

  before_from : (n : ℕ) → some_before q d s ws w n ≡ true → (v : ℕ) × (v < n) × (goes v ≡ true)
  before_from zero h = absurd (cc)
  before_from (suc n) h = elim (or_cases (goes n) _ h) [
    | inl here ↦ (n, omega arith, here)
    | inr more ↦ (let x = before_from n more in let lt = x.1 in (x.0, omega (arith, lt), x.2))
  ]

  before_at : (n v : ℕ) → v < n → goes v ≡ true → some_before q d s ws w n ≡ true
  before_at zero v lt h = absurd (omega (arith, lt))
  before_at (suc n) v lt h =
      by_bool (nat_lt v n) (λ b. nat_lt v n ≡ b → some_before q d s ws w (suc n) ≡ true)
      (λ _ more. or_right (goes n) _ (before_at n v (ltb-true v n more) h))
      (λ _ last. let le = ltb-false v n last in
      let same : v ≡ n = omega (arith, lt, le) in
      or_left (goes n) _ (ap goes (sym same) ∙ h)) refl

-- ---- tests that agree

any_same : {X : Type 0} (f g : X → Bool) (xs : List X) → ((x : X) → f x ≡ g x)
    → list_any f xs ≡ list_any g xs
any_same f g [] same = refl
any_same f g (x ∷ xs) same = λ i. same x i || any_same f g xs same i

-- ---- a line may go

module _ (q : SharedPlan) (ticks : Option ℕ) (d : Option Facts) (s : State) (j : List Entry)
    (st : Stands q.plan (seats_with ticks (seats q)) s j)
    (legal : LegalBy (pooled_discipline q ticks) j) (so : DelayStands q.plan ticks d j) where
  abbrev n : ℕ
  n = seats_with ticks (seats q)

  -- as many berths as the tables have
  abbrev Q : SharedPlan
  Q = one_pool q n

  stq : Stands Q.plan (seats Q) s j
  stq = as_pool q n s j st

  within : (w l : ℕ) → last_line j w ≡ Some l → w < seats q
  within w l here = line_within q ticks j w l legal here

  vacant_some : (w m : ℕ) → some_vacant q s w m ≡ needs.some_vacant q j w m
  vacant_some w zero = refl
  vacant_some w (suc m) = λ i. (same_pool q m w && vacant_is q n s j st m i)
      || vacant_some w m i

  pub may_go_is : (w l : ℕ) → last_line j w ≡ Some l → may_go d s w ≡ needs.may_go q ticks j l
  may_go_is w l here =
      (λ i. li.rests_is Q s j w l stq here i
      && due_none q.plan n s j st ticks d so (unwrap_or (group_at s w) 0) i)
      ∙ ap (λ (o : Option ℕ). needs.is_idle q.plan j l
      && is_none (next_due q.plan ticks j (unwrap_or o 0))) (li.group_is Q s j w l stq here)

  -- a line that may go is live
  goes_live : (l : ℕ) → needs.may_go q ticks j l ≡ true → live j l ≡ true
  goes_live l h = (and_parts (live j l) _ (and_parts (needs.is_idle q.plan j l) _ h).0).0

  goes_started : (l : ℕ) → needs.may_go q ticks j l ≡ true → started j l ≡ true
  goes_started l h = c.live_started j l (goes_live l h)

  -- ---- a line goes before another

  module _ (ws : List ℕ) (known : IsSpoken (seats q) j ws) (w l : ℕ)
      (here : last_line j w ≡ Some l) (goes_too : needs.may_go q ticks j l ≡ true) where
    -- of two that may go the one that was silent for longer
    longer : (v k : ℕ) → last_line j v ≡ Some k → needs.may_go q ticks j k ≡ true
        → (not (v == w) && is_before v w ws) ≡ nat_lt (silent_for j l) (silent_for j k)
    longer v k there may =
        by_bool (v == w) (λ b. (v == w) ≡ b
        → (not b && is_before v w ws) ≡ nat_lt (silent_for j l) (silent_for j k))
        (λ _ same. same_line (eqb-true v w same))
        (λ _ apart. by_bool (is_before v w ws) (λ b. is_before v w ws ≡ b
        → b ≡ nat_lt (silent_for j l) (silent_for j k))
        (λ _ first. sym (lt-ltb _ _ (known.longer v w k l there here (goes_started k may)
        (goes_started l goes_too) apart first)))
        (λ _ last. sym (le-ltb _ _ (let lt = known.longer w v l k here there
        (goes_started l goes_too) (goes_started k may) (flip apart) (turned apart last) in
        omega (arith, lt)))) refl) refl
      where
        same_line : v ≡ w → false ≡ nat_lt (silent_for j l) (silent_for j k)
        same_line same =
            let both : Some k ≡ Some l = sym there ∙ ap (last_line j) same ∙ here in
            let line : k ≡ l = cc in
            sym (le-ltb _ _ (let n = ap (silent_for j) line in omega (arith, n)))

        flip : (v == w) ≡ false → (w == v) ≡ false
        flip apart = false_by _ (λ h. clash (v == w) (eq-eqb v w (sym (eqb-true w v h))) apart)

        turned : (v == w) ≡ false → is_before v w ws ≡ false → is_before w v ws ≡ true
        turned apart last = known.there w v (within w l here) (flip apart)
            ∙ ap not last

    goes_is : (v k : ℕ) → last_line j v ≡ Some k
        → goes_before d s ws w v ≡ needs.goes_before q ticks j l k
    goes_is v k there =
        (λ i. line_is_killed (li.line_eq Q s j v k stq there i)
        || (may_go_is v k there i && (not (v == w) && is_before v w ws)))
        ∙ ap (λ b. (was_killed j k && not (has_ended j k)) || b)
        (by_bool (needs.may_go q ticks j k) (λ b. needs.may_go q ticks j k ≡ b
        → (b && (not (v == w) && is_before v w ws))
        ≡ (b && nat_lt (silent_for j l) (silent_for j k)))
        (λ _ may. longer v k there may) (λ _ _. refl) refl)

    -- a line that goes before is its berth's last
    goes_last : (v k : ℕ) → IsOfBerth j k v → needs.goes_before q ticks j l k ≡ true
        → last_line j v ≡ Some k
    goes_last v k own h =
        elim (va.last_or_done q.plan j k own.owner.0 own.owner.1 st.lawful own.owner.2) [
          | inl last ↦ subst (λ n. last_line j n ≡ Some k) own.owner.3 last
          | inr done ↦ absurd (elim (or_cases (was_killed j k && not (has_ended j k)) _ h) [
            | inl killed ↦ stays (and_parts (was_killed j k) _ killed)
                (or_cases (failed j k) _ done)
            | inr may ↦ clash (live j k) (goes_live k (and_parts (needs.may_go q ticks j k) _ may).0)
                (va.done_not_live q.plan j k st.lawful done)
          ])
        ]
      where
        stays : (was_killed j k ≡ true) × (not (has_ended j k) ≡ true)
            → (failed j k ≡ true) ⊎ ((has_ended j k && was_killed j k) ≡ true) → ⊥
        stays killed (inl fault) = clash (failed j k) fault (c.started_unfailed q.plan j k st.lawful
            (killed_started q.plan j k st.lawful killed.0))
        stays killed (inr over) = clash (has_ended j k) (and_parts (has_ended j k) _ over).0
            (not_true (has_ended j k) killed.1)

    -- a berth without a line has none that goes before
    has_line : (v : ℕ) → goes_before d s ws w v ≡ true → (k : ℕ) × (last_line j v ≡ Some k)
    has_line v h = by (last_line j v) refl
      where
        by : (o : Option ℕ) → last_line j v ≡ o → (k : ℕ) × (last_line j v ≡ Some k)
        by (Some k) is = (k, is)
        by None is = absurd (clash (goes_before d s ws w v) h (rw (li.no_line Q s j v stq is) refl))

    abbrev goes_of : ℕ × ℕ → Bool
    goes_of x = same_pool q x.0 w && needs.goes_before q ticks j l x.1

    pub some_goes : some_before q d s ws w (seats q) ≡ list_any goes_of (all_lines j)
    some_goes = by_bool (list_any goes_of (all_lines j)) (λ b. list_any goes_of (all_lines j) ≡ b
        → some_before q d s ws w (seats q) ≡ b)
        (λ _ on. told on)
        (λ _ off. false_by _ (λ h. clash (list_any goes_of (all_lines j)) (found h) off)) refl
      where
        told : list_any goes_of (all_lines j) ≡ true → some_before q d s ws w (seats q) ≡ true
        told h =
            let x = any_member goes_of (all_lines j) h in
            let parts = and_parts (same_pool q x.0.0 w) _ x.2 in
            let last = goes_last x.0.0 x.0.1 (line_own q.plan j x.0 st.lawful x.1) parts.1 in
            before_at q d s ws w (seats q) x.0.0 (within x.0.0 x.0.1 last)
            (and_from _ _ parts.0 (goes_is x.0.0 x.0.1 last ∙ parts.1))

        found : some_before q d s ws w (seats q) ≡ true → list_any goes_of (all_lines j) ≡ true
        found h =
            let x = before_from q d s ws w (seats q) h in
            let parts = and_parts (same_pool q x.0 w) _ x.2 in
            let y = has_line x.0 parts.1 in
            member_any goes_of (x.0, y.0) (all_lines j) (last_among j x.0 y.0 y.1)
            (and_from _ _ parts.0 (sym (goes_is x.0 y.0 y.1) ∙ parts.1))

  -- ---- the line that is given up

  module _ (w l : ℕ) (pool : SharedPool) where
    abbrev starves : Bool
    starves = list_any (needs.is_starved q ticks j pool) pool.groups

    abbrev vacant : Bool
    vacant = needs.some_vacant q j w (seats q)

    abbrev goes_first : Bool
    goes_first = list_any (λ x. same_pool q x.0 w && needs.goes_before q ticks j l x.1) (all_lines j)

    pub evicts_is : (ws : List ℕ) → IsSpoken (seats q) j ws → last_line j w ≡ Some l
        → may_evict q d s ws w pool ≡ needs.may_evict q ticks j w pool l
    unfolding needs.may_evict
    evicts_is ws known here =
        (λ i. (may_go_is w l here i
        && any_same (is_starved q d s pool) (needs.is_starved q ticks j pool) pool.groups
        (starved_is q ticks d s j st legal so pool) i)
        && (not (vacant_some w (seats q) i) && not (some_before q d s ws w (seats q))))
        ∙ by_bool (needs.may_go q ticks j l) (λ b. needs.may_go q ticks j l ≡ b
        → ((b && starves) && (not vacant && not (some_before q d s ws w (seats q))))
        ≡ ((b && starves) && (not vacant && not goes_first)))
        (λ _ may. ap (λ b. starves && (not vacant && not b)) (some_goes ws known w l here may))
        (λ _ _. refl) refl
