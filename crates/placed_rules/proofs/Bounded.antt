-- A Tick is noted only while some action waits for more of them, and of each it is noted for one more.
use Rattle.std.proofs.Common.{◌≡◌, ℕ, suc, ◌+◌, ◌*◌, ◌<◌, ◌≤◌, nat_lt, true, ◌&&◌, ◌||◌, cond, List, [], ◌∷◌, length, Option, Some, None, refl, sym, ap, subst, ◌∙◌, arith}
use Rattle.std.specs.Prelude.{count_by, sum_by}
use Rattle.std.proofs.Math.Nat.{add-mul}
use Rattle.std.proofs.lemmas.Bool.{and_parts, ltb-true, ltb-false}
use Rattle.std.proofs.lemmas.List.Sums.{sum_by-cons}
use Rattle.list_lemmas.specs.Options.{and_more}
use Rattle.run_plan.specs.declared.plan.Plan.{Plan}
use Rattle.run_plan.specs.declared.plan.PlanAction.{PlanAction}
use Rattle.exec_journal.specs.declared.call.Call.{Call}
use Rattle.exec_journal.specs.declared.call.Call.TheVariants as call
use Rattle.exec_journal.specs.declared.reply.Reply.{Reply}
use Rattle.exec_journal.specs.declared.reply.Reply.TheVariants as reply
use Rattle.exec_journal.specs.Entry.{Entry}
use Rattle.exec_journal.specs.History.{each}
use Rattle.exec_journal.specs.Rules as r
use Rattle.exec_journal.specs.Settled.{ready}
use Rattle.exec_journal.proofs.Ruled.{by_bool}
use Rattle.core_contract.specs.Discipline.{Discipline}
use Rattle.core_contract.specs.Disciplines.{LegalBy}
use Rattle.placed_rules.specs.Due as de
use Rattle.placed_rules.specs.Due.{is_dual, is_tick, ticks_since, tick_after}
use Rattle.placed_rules.specs.declared.placed.Placed.{Placed}
use Rattle.placed_rules.specs.declared.placed.Seating.{Seating}
use Rattle.placed_rules.specs.declared.placed.Seating.TheVariants.{Own, Pools}
use Rattle.placed_rules.specs.Placed.{placed, placed_discipline}
use Rattle.placed_rules.specs.Bounds.{TicksAreFew, is_noted, is_noted_tick}
use Rattle.placed_rules.proofs.Ticking.{no_ticks}

-- ---- up to n

abbrev upto : ℕ → ℕ → ℕ
upto n t = cond (nat_lt t n) t n

upto_most : (n t : ℕ) → upto n t ≤ n
upto_most n t = by_bool (nat_lt t n) (λ b. nat_lt t n ≡ b → cond b t n ≤ n)
    (λ yes _. let lt = ltb-true t n yes in omega (arith, lt)) (λ _ _. omega arith) refl

upto_grows : (n t u : ℕ) → t ≤ u → upto n t ≤ upto n u
upto_grows n t u le =
    by_bool (nat_lt u n) (λ b. nat_lt u n ≡ b → upto n t ≤ cond b u n)
    (λ yes _. by_bool (nat_lt t n) (λ b. nat_lt t n ≡ b → cond b t n ≤ u) (λ _ _. le)
    (λ no _. let ge = ltb-false t n no in let lt = ltb-true u n yes in omega (arith, ge, lt, le))
    refl)
    (λ _ _. upto_most n t) refl

upto_more : (n t : ℕ) → t < n → upto n t + 1 ≤ upto n (t + 1)
upto_more n t lt =
    by_bool (nat_lt t n) (λ b. nat_lt t n ≡ b → cond b t n + 1 ≤ upto n (t + 1))
    (λ _ _. by_bool (nat_lt (t + 1) n) (λ b. nat_lt (t + 1) n ≡ b → t + 1 ≤ cond b (t + 1) n)
    (λ _ _. omega arith) (λ _ _. omega (arith, lt)) refl)
    (λ no _. absurd (let ge = ltb-false t n no in omega (arith, ge, lt))) refl

module _ (p : Plan) (n : ℕ) where
  -- the Ticks that came for an action that uses both branches, up to n
  abbrev came : List Entry → PlanAction → ℕ
  came j x = cond (is_dual x) (upto n (ticks_since p j x)) 0

  came_most : (j : List Entry) (x : PlanAction) → came j x ≤ cond (is_dual x) 1 0 * n
  came_most j x =
      by_bool (is_dual x) (λ b. cond b (upto n (ticks_since p j x)) 0 ≤ cond b 1 0 * n)
      (λ _. let le = upto_most n (ticks_since p j x) in omega (arith, le)) (λ _. omega arith)

  all_most : (j : List Entry) (xs : List PlanAction) → sum_by (came j) xs ≤ count_by is_dual xs * n
  all_most j [] = omega arith
  all_most j (x ∷ xs) =
      let one = came_most j x in
      let rest = all_most j xs in
      let left = sum_by-cons (came j) x xs in
      let right : count_by is_dual (x ∷ xs) * n ≡ (cond (is_dual x) 1 0 + count_by is_dual xs) * n =
      ap (λ k. k * n) (sum_by-cons (λ (y : PlanAction). cond (is_dual y) 1 0) x xs) in
      let parts : (cond (is_dual x) 1 0 + count_by is_dual xs) * n
      ≡ cond (is_dual x) 1 0 * n + count_by is_dual xs * n =
      add-mul (cond (is_dual x) 1 0) (count_by is_dual xs) n in
      omega (arith, one, rest, left, right, parts)

  -- ---- an entry more

  module _ (j : List Entry) (e : Entry) where
    since_grows : (x : PlanAction) → ticks_since p j x ≤ ticks_since p (e ∷ j) x
    unfolding ticks_since
    since_grows x = by (tick_after p x j e)
      where
        by : (o : Option ℕ)
            → length (each (tick_after p x) j) ≤ length (and_more o (each (tick_after p x) j))
        by None = omega arith
        by (Some l) = omega arith

    came_grows : (x : PlanAction) → came j x ≤ came (e ∷ j) x
    came_grows x =
        by_bool (is_dual x) (λ b. cond b (upto n (ticks_since p j x)) 0
        ≤ cond b (upto n (ticks_since p (e ∷ j) x)) 0)
        (λ _. upto_grows n (ticks_since p j x) (ticks_since p (e ∷ j) x) (since_grows x))
        (λ _. omega arith)

    all_grow : (xs : List PlanAction) → sum_by (came j) xs ≤ sum_by (came (e ∷ j)) xs
    all_grow [] = omega arith
    all_grow (x ∷ xs) =
        let one = came_grows x in
        let rest = all_grow xs in
        let left = sum_by-cons (came j) x xs in
        let right = sum_by-cons (came (e ∷ j)) x xs in
        omega (arith, one, rest, left, right)

    module _ (tick : is_tick e.call ≡ true) where
      since_more : (x : PlanAction) → ready p j x ≡ true
          → ticks_since p (e ∷ j) x ≡ ticks_since p j x + 1
      unfolding ticks_since
      since_more x made =
          (λ i. length (and_more (cond (tick i && made i) (Some e.lane) None)
          (each (tick_after p x) j))) ∙ omega arith

      came_more : (a : ℕ) (x : PlanAction) → de.waits_for_tick p n j a x ≡ true
          → came j x + 1 ≤ came (e ∷ j) x
      came_more a x waits =
          let parts = and_parts (is_dual x && ready p j x) _ waits in
          let both = and_parts (is_dual x) (ready p j x) parts.0 in
          let lt = ltb-true (ticks_since p j x) n (and_parts _ _ parts.1).1 in
          let more : upto n (ticks_since p j x) + 1 ≤ upto n (ticks_since p (e ∷ j) x) =
          subst (λ t. upto n (ticks_since p j x) + 1 ≤ upto n t) (sym (since_more x both.1))
          (upto_more n (ticks_since p j x) lt) in
          subst (λ b. cond b (upto n (ticks_since p j x)) 0 + 1
          ≤ cond b (upto n (ticks_since p (e ∷ j) x)) 0) (sym both.0) more

      all_more : (a : ℕ) (xs : List PlanAction) → de.some_waits p n j a xs ≡ true
          → sum_by (came j) xs + 1 ≤ sum_by (came (e ∷ j)) xs
      all_more a [] waits = absurd (cc)
      all_more a (x ∷ xs) waits =
          let left = sum_by-cons (came j) x xs in
          let right = sum_by-cons (came (e ∷ j)) x xs in
          by_bool (de.waits_for_tick p n j a x) (λ b. de.waits_for_tick p n j a x ≡ b
          → (b || de.some_waits p n j (suc a) xs) ≡ true
          → sum_by (came j) (x ∷ xs) + 1 ≤ sum_by (came (e ∷ j)) (x ∷ xs))
          (λ _ here _. let one = came_more a x here in
          let rest = all_grow xs in omega (arith, one, rest, left, right))
          (λ _ _ later. let one = came_grows x in
          let rest = all_more (suc a) xs later in omega (arith, one, rest, left, right)) refl waits

  -- ---- all of them

  some_are_waited : (j : List Entry) → is_noted (de.tick_reply p n j) ≡ true
      → de.some_waits p n j 0 p.actions ≡ true
  some_are_waited j noted =
      by_bool (r.is_over p j) (λ b. is_noted (cond b reply.Stop
      (cond (de.some_waits p n j 0 p.actions) reply.Noted reply.Idle)) ≡ true
      → de.some_waits p n j 0 p.actions ≡ true)
      (λ _ h. absurd (cc))
      (λ _ h. by_bool (de.some_waits p n j 0 p.actions)
      (λ b. is_noted (cond b reply.Noted reply.Idle) ≡ true → b ≡ true) (λ _ _. refl)
      (λ _ k. absurd (cc)) h) noted

  -- ---- in each discipline that says so of Ticks

  module _ (q : Discipline)
      (says : (j : List Entry) (lane : ℕ) → q.rule j lane call.Tick ≡ de.tick_reply p n j) where
    rule_of_tick : (j : List Entry) (lane : ℕ) (c : Call) → is_tick c ≡ true
        → q.rule j lane c ≡ de.tick_reply p n j
    rule_of_tick j lane call.Tick h = says j lane
    rule_of_tick j lane _ h = absurd (cc)

    noted : (j : List Entry) → LegalBy q j → count_by is_noted_tick j ≤ sum_by (came j) p.actions
    noted [] legal = omega arith
    noted (e ∷ j) legal =
        let before = noted j legal.0 in
        let count = sum_by-cons (λ (d : Entry). cond (is_noted_tick d) 1 0) e j in
        by_bool (is_noted_tick e) (λ b. is_noted_tick e ≡ b
        → count_by is_noted_tick (e ∷ j) ≡ cond b 1 0 + count_by is_noted_tick j
        → count_by is_noted_tick (e ∷ j) ≤ sum_by (came (e ∷ j)) p.actions)
        (λ _ yes here. let parts = and_parts (is_tick e.call) (is_noted e.reply) yes in
        let asked : e.reply ≡ de.tick_reply p n j = legal.1.replied
        ∙ rule_of_tick j e.lane e.call parts.0 in
        let waits = some_are_waited j (subst (λ (x : Reply). is_noted x ≡ true) asked parts.1) in
        let more = all_more j e parts.0 0 p.actions waits in omega (arith, before, here, more))
        (λ _ _ here. let more = all_grow j e p.actions in omega (arith, before, here, more))
        refl count

    pub few_of : (j : List Entry) → LegalBy q j → TicksAreFew p (Some n) j
    few_of j legal = let all = noted j legal in let most = all_most j p.actions in
        omega (arith, all, most)

-- ---- on each seating

few_in : (p : Plan) (seating : Seating) (ticks : Option ℕ) (j : List Entry)
    → LegalBy (placed_discipline (placed p seating ticks)) j → TicksAreFew p ticks j
few_in p seating None j legal =
    let none = no_ticks (placed_discipline (placed p seating None)) (λ _. refl) j legal in
    omega (arith, none)
few_in p Own (Some n) j legal =
    few_of p n (placed_discipline (placed p Own (Some n))) (λ _ _. refl) j legal
few_in p (Pools pools instances) (Some n) j legal =
    few_of p n (placed_discipline (placed p (Pools pools instances) (Some n))) (λ _ _. refl) j legal

pub few : (x : Placed) (j : List Entry) → LegalBy (placed_discipline x) j
    → TicksAreFew x.plan x.ticks j
few x j legal = few_in x.plan x.seating x.ticks j legal
