-- What is said of each order of shared berths holds, and a pool has no more processes than berths.
use Rattle.std.proofs.Common.{◌≡◌, ℕ, zero, suc, ◌+◌, ◌/◌, ◌≤◌, ◌==◌, Bool, true, false, ◌&&◌, ◌||◌, not, cond, List, [], ◌∷◌, length, Option, Some, None, option_map, inl, inr, refl, sym, ap, subst, ◌∙◌, arith}
use Rattle.std.specs.List.{filter}
use Rattle.std.proofs.lemmas.Bool.{eq-eqb, le-leb, and_from}
use Rattle.run_plan.specs.declared.plan.Kind.{Kind}
use Rattle.run_plan.specs.declared.plan.Plan.{Plan}
use Rattle.exec_journal.specs.declared.attempt.Attempt.{Attempt}
use Rattle.exec_journal.specs.Entry.{Entry}
use Rattle.exec_journal.specs.declared.call.Call.{Call}
use Rattle.exec_journal.specs.declared.call.Call.TheVariants as call
use Rattle.exec_journal.specs.declared.ends.Cause.{Cause}
use Rattle.exec_journal.specs.declared.ends.Cause.TheVariants as cause
use Rattle.exec_journal.specs.declared.reply.Reply.{Reply}
use Rattle.exec_journal.specs.declared.reply.Reply.TheVariants as reply
use Rattle.exec_journal.specs.declared.reply.Why.TheVariants as why
use Rattle.exec_journal.specs.History.{AtEach}
use Rattle.exec_journal.specs.Entries.{attempt_of, launch_in}
use Rattle.exec_journal.specs.Words.{last_line, lines_of, failed, has_ended, was_killed, line_cause, why_of}
use Rattle.exec_journal.specs.Seated.{group_for, line_group}
use Rattle.exec_journal.specs.Rules as r
use Rattle.exec_journal.specs.Lawful.{Lawful}
use Rattle.exec_journal.proofs.Histories.{AtSome}
use Rattle.exec_journal.proofs.Ruled.{by_bool, GatherFor, For, gathers_from}
use Rattle.exec_journal.proofs.Reasons as u
use Rattle.journal_laws.proofs.Carried as k
use Rattle.journal_laws.proofs.Keeping as ke
use Rattle.journal_laws.proofs.Lanes as la
use Rattle.journal_laws.proofs.Vacant as va
use Rattle.core_contract.specs.Disciplines.{LegalBy, LegalEntryBy}
use Rattle.placed_rules.specs.declared.pools.SharedPlan.{SharedPlan}
use Rattle.placed_rules.specs.declared.pools.SharedPool.{SharedPool}
use Rattle.placed_rules.specs.Pools as po
use Rattle.placed_rules.specs.Due as du
use Rattle.placed_rules.specs.Needs as ne
use Rattle.placed_rules.specs.Shared as sh
use Rattle.placed_rules.specs.Placed.{pooled_discipline}
use Rattle.placed_rules.specs.Kept as kp
use Rattle.placed_rules.specs.Kept.{PoolsKept, shared_kept, is_for_starved, same_group}
use Rattle.placed_rules.proofs.Reasons as re
use Rattle.placed_rules.proofs.PoolLawful as lf

-- ---- what is launched and evicted

-- what is kept of each order but a Send
abbrev pool_kept : SharedPlan → Option ℕ → List Entry → ℕ → Reply → Bool
pool_kept s ticks j w (reply.Send l n a b t) = true
pool_kept s ticks j w x = shared_kept s ticks j w x

module _ (s : SharedPlan) (ticks : Option ℕ) (j : List Entry) (w : ℕ) where
  abbrev Keeps : Reply → Type 0
  Keeps x = pool_kept s ticks j w x ≡ true

  quit_keeps : (o : Option ℕ) (x : Reply) → r.quits s.plan j o ≡ Some x → Keeps x
  quit_keeps None x h =
      let c = u.when_some (r.is_over s.plan j) reply.Stop x h in subst (λ v. Keeps v) c.1 refl
  quit_keeps (Some l) x h =
      let c = u.when_some (r.is_over s.plan j) (r.leave j (Some l)) x h in
      subst (λ v. Keeps v) c.1
      (by_bool (r.runs j l) (λ b. Keeps (cond b (reply.Kill l why.Quit) reply.Stop)) (λ _. refl)
      (λ _. refl))

  reason_keeps : (l : ℕ) (y : Cause) → Keeps (reply.Kill l (why_of y))
  reason_keeps l cause.Breach = refl
  reason_keeps l cause.Feed = refl
  reason_keeps l _ = refl

  broken_keeps : (o : Option ℕ) (x : Reply) → r.kills_broken j o ≡ Some x → Keeps x
  broken_keeps None x h = absurd (cc)
  broken_keeps (Some l) x h =
      let c = u.if_some (r.runs j l)
      (option_map (λ y. reply.Kill l (why_of y)) (line_cause j l)) x h in
      u.map_some (λ y. reply.Kill l (why_of y)) (line_cause j l) x c.1 (λ v. Keeps v)
      (λ y _. reason_keeps l y)

  unwanted_keeps : (k : Kind) (g : ℕ) (o : Option ℕ) (x : Reply)
      → r.kills_unwanted_of s.plan j k g o ≡ Some x → Keeps x
  unwanted_keeps k g None x h = absurd (cc)
  unwanted_keeps k g (Some l) x h =
      let c = u.when_some _ (reply.Kill l why.Unwanted) x h in subst (λ v. Keeps v) c.1 refl

  gather_keeps : (i : List Entry) (x : Reply)
      → AtSome (λ _ e. ((e.lane / 2 == w) ≡ true) × GatherFor j e.call e.reply x) i → Keeps x
  gather_keeps (e ∷ i) x (inl g) = of_form e.call e.reply x g.1
    where
      of_form : (c : Call) (y x : Reply) → GatherFor j c y x → Keeps x
      of_form c y x (For l m a b t wait) = refl
  gather_keeps (e ∷ i) x (inr g) = gather_keeps i x g
  gather_keeps [] x g = absurd g

  cancel_keeps : (k : Kind) (g : ℕ) (o : Option ℕ) (x : Reply)
      → r.cancels_next_of s.plan j k g o ≡ Some x → Keeps x
  cancel_keeps k g None x h = absurd (cc)
  cancel_keeps k g (Some l) x h =
      let c = u.if_some _ (option_map r.cancel_for _) x h in
      u.map_some r.cancel_for _ x c.1 (λ v. Keeps v) (λ q _. refl)

  send_keeps : (k : Kind) (next : Option Attempt) (o : Option ℕ) (x : Reply)
      → r.sends_next_of s.plan j k next o ≡ Some x → Keeps x
  send_keeps k next None x h = absurd (cc)
  send_keeps k next (Some l) x h =
      let c = u.if_some _ (option_map (r.send_order_of j k l) _) x h in
      u.map_some (r.send_order_of j k l) _ x c.1 (λ v. Keeps v) (λ t _. refl)

  evict_keeps : (pool : SharedPool) → po.pool_of s w ≡ Some pool → (o : Option ℕ) (x : Reply)
      → sh.evicts s ticks j w pool o ≡ Some x → Keeps x
  evict_keeps pool is None x h = absurd (cc)
  evict_keeps pool is (Some l) x h =
      let c = u.when_some (ne.may_evict s ticks j w pool l) (reply.Kill l why.Evicted) x h in
      subst (λ v. Keeps v) c.1 (rw is c.0)

  launch_keeps : (pool : SharedPool) → po.pool_of s w ≡ Some pool → (o : Option ℕ) (x : Reply)
      → sh.shared_launches s ticks j pool o ≡ Some x → Keeps x
  launch_keeps pool is o x h =
      let c = u.if_some _ (option_map (r.launch_order j) (sh.next_starved s ticks j pool)) x h in
      u.map_some (r.launch_order j) (sh.next_starved s ticks j pool) x c.1 (λ v. Keeps v)
      (λ t next. let n = re.starved_next s ticks j pool t next in
      let runs = ke.group_runs s.plan t n.group (ke.queue_runs s.plan j n.group t n.next) in
      rw (is, runs) (and_from _ _ n.member n.starved))

  more_keeps : (o : Option SharedPool) → po.pool_of s w ≡ o → (x : Reply)
      → sh.pool_orders s ticks j w (last_line j w) o ≡ Some x → Keeps x
  more_keeps None is x h = absurd (cc)
  more_keeps (Some pool) is x h =
      elim (k.or_some (sh.evicts s ticks j w pool (last_line j w)) _ x h) [
        | inl evict ↦ evict_keeps pool is (last_line j w) x evict
        | inr launch ↦ launch_keeps pool is (last_line j w) x launch
      ]

  ask_keeps : Keeps (sh.ask_shared s ticks j w (last_line j w))
  ask_keeps =
      let o = last_line j w in
      let kind = sh.kind_here s.plan j o in
      let g = sh.group_here s.plan j o in
      u.ask_chain (λ v. Keeps v) s.plan j w kind g o (du.next_due s.plan ticks j g)
      (sh.pool_orders s ticks j w o (po.pool_of s w)) (quit_keeps o) (broken_keeps o)
      (unwanted_keeps kind g o) (λ x h. gather_keeps j x (gathers_from j w x h))
      (cancel_keeps kind g o) (send_keeps kind (du.next_due s.plan ticks j g) o)
      (more_keeps (po.pool_of s w) refl) refl

-- ---- what is launched is for a starved group of the berth's pool

launch_is : (x : Reply) (y : ℕ × Attempt) → launch_in x ≡ Some y
    → x ≡ reply.Launch y.0 y.1.action y.1.branch y.1.number
launch_is (reply.Launch l a b t) y is =
    let same : (l, attempt_of a b t) ≡ y = cc in
    ap (λ (z : ℕ × Attempt). reply.Launch z.0 z.1.action z.1.branch z.1.number) same
launch_is _ y is = absurd (cc)

pub kept_launch : (s : SharedPlan) (ticks : Option ℕ) (j : List Entry) (w : ℕ) (x : Reply) (y : ℕ × Attempt)
    → shared_kept s ticks j w x ≡ true → launch_in x ≡ Some y
    → is_for_starved s ticks j (po.pool_of s w) (group_for s.plan y.1) ≡ true
kept_launch s ticks j w x y h is =
    subst (λ (v : Reply). shared_kept s ticks j w v ≡ true) (launch_is x y is) h

pub asked_launch : (s : SharedPlan) (ticks : Option ℕ) (j : List Entry) (w : ℕ) (y : ℕ × Attempt)
    → launch_in (sh.ask_shared s ticks j w (last_line j w)) ≡ Some y
    → is_for_starved s ticks j (po.pool_of s w) (group_for s.plan y.1) ≡ true
asked_launch s ticks j w y is =
    subst (λ (v : Reply). pool_kept s ticks j w v ≡ true) (launch_is _ y is) (ask_keeps s ticks j w)

-- ---- each order

-- what is sent is of its line's group
sent_kept : (s : SharedPlan) (ticks : Option ℕ) (j : List Entry) (lane : ℕ) (d : Call) (x : Reply) → Lawful s.plan j
    → u.Ruled s.plan j lane d x → pool_kept s ticks j (lane / 2) x ≡ true
    → shared_kept s ticks j (lane / 2) x ≡ true
sent_kept s ticks j lane d x lawful (u.Sends l t here alive next none) h =
    let own = la.here_own s.plan j (lane / 2) l lawful here in
    let same = ke.group_there s.plan j l own.owner.0 own.owner.1 t lawful own.owner.2 next in
    let runs = ke.group_runs s.plan t (line_group s.plan j l)
    (ke.next_runs s.plan j l t lawful next) in
    rw (runs, sym same ∙ runs) (eq-eqb (line_group s.plan j l) (line_group s.plan j l) refl)
sent_kept s ticks j lane d x lawful (u.Launches g t vacant next none) h = h
sent_kept s ticks j lane d x lawful (u.Evicts l here alive empty free none) h = h
sent_kept s ticks j lane d x lawful (u.KillsBroken l y here run broken over) h = h
sent_kept s ticks j lane d x lawful (u.Notes e n) h = refl
sent_kept s ticks j lane d x lawful _ h = h

-- a reply to another call orders nothing
other_keeps : (s : SharedPlan) (ticks : Option ℕ) (j : List Entry) (lane : ℕ) (d : Call) (x : Reply)
    → (d ≡ call.Ask → ⊥) → u.Ruled s.plan j lane d x → pool_kept s ticks j (lane / 2) x ≡ true
other_keeps s ticks j lane d x n (u.Launches g t vacant next none) = absurd (n refl)
other_keeps s ticks j lane d x n (u.Evicts l here alive empty free none) = absurd (n refl)
other_keeps s ticks j lane d x n (u.KillsBroken l y here run broken over) = absurd (n refl)
other_keeps s ticks j lane d x n (u.Notes e i) = refl
other_keeps s ticks j lane d x n _ = refl

rule_keeps : (s : SharedPlan) (ticks : Option ℕ) (j : List Entry) (lane : ℕ) (d : Call)
    → u.Ruled s.plan j lane d (sh.pooled_rule s ticks j lane d)
    → pool_kept s ticks j (lane / 2) (sh.pooled_rule s ticks j lane d) ≡ true
rule_keeps s ticks j lane call.Ask ruled = ask_keeps s ticks j (lane / 2)
rule_keeps s ticks j lane d ruled = other_keeps s ticks j lane d _ (λ e. cc) ruled

entry_kept : (s : SharedPlan) (ticks : Option ℕ) (j : List Entry) (e : Entry) → Lawful s.plan j
    → LegalEntryBy (pooled_discipline s ticks) j e → shared_kept s ticks j (e.lane / 2) e.reply ≡ true
entry_kept s ticks j e lawful legal =
    let ruled = u.ruled s.plan j e (lf.entry_lawful s ticks j e legal) in
    let is = subst (λ (x : Reply). u.Ruled s.plan j e.lane e.call x) legal.replied ruled in
    let keeps = subst (λ (x : Reply). pool_kept s ticks j (e.lane / 2) x ≡ true) (sym legal.replied)
    (rule_keeps s ticks j e.lane e.call is) in
    sent_kept s ticks j e.lane e.call e.reply lawful ruled keeps

-- ---- no more processes than berths

held_done : (j : List Entry) (l : ℕ) → va.is_done_line j l ≡ true → ne.is_held j l ≡ false
held_done j l h = by (failed j l) (has_ended j l && was_killed j l) h
  where
    by : (a b : Bool) → (a || b) ≡ true → (not a && not b) ≡ false
    by true b h = refl
    by false true h = refl
    by false false h = absurd (cc)

none_held : (j : List Entry) (ls : List ℕ) → va.EachDone j ls
    → length (filter (ne.is_held j) ls) ≡ 0
unfolding va.EachDone
none_held j [] all = refl
none_held j (l ∷ ls) all = rw (held_done j l all.0) (none_held j ls all.1)

one_held : (p : Plan) (j : List Entry) (w : ℕ) → Lawful p j
    → length (filter (ne.is_held j) (lines_of j w)) ≤ 1
one_held p j w lawful = by (lines_of j w) (va.older_done p j w lawful)
  where
    by : (ls : List ℕ) → va.EachDone j (va.rest ls) → length (filter (ne.is_held j) ls) ≤ 1
    by [] all = omega arith
    by (l ∷ ls) all =
        let n = none_held j ls all in
        by_bool (ne.is_held j l)
        (λ b. length (cond b (l ∷ filter (ne.is_held j) ls) (filter (ne.is_held j) ls)) ≤ 1)
        (λ _. omega (arith, n)) (λ _. omega (arith, n))

few_held : (s : SharedPlan) (j : List Entry) (w n : ℕ) → Lawful s.plan j
    → kp.held_in s j w n ≤ kp.berths_below s w n
few_held s j w zero lawful = omega arith
few_held s j w (suc n) lawful =
    let before = few_held s j w n lawful in
    let one = one_held s.plan j n lawful in
    by_bool (po.same_pool s n w)
    (λ b. kp.held_in s j w n + cond b (length (filter (ne.is_held j) (lines_of j n))) 0
    ≤ kp.berths_below s w n + cond b 1 0)
    (λ _. omega (arith, before, one)) (λ _. omega (arith, before))

-- ---- all of it

pub kept_at : (s : SharedPlan) (ticks : Option ℕ) (j : List Entry) → LegalBy (pooled_discipline s ticks) j
    → AtEach (λ before e. shared_kept s ticks before (e.lane / 2) e.reply ≡ true) j
kept_at s ticks [] legal = tt
kept_at s ticks (e ∷ j) legal =
    (kept_at s ticks j legal.0, entry_kept s ticks j e (lf.lawful s ticks j legal.0) legal.1)

held_at : (s : SharedPlan) (ticks : Option ℕ) (j : List Entry) → LegalBy (pooled_discipline s ticks) j
    → AtEach (λ before e. (w : ℕ) → kp.has_berths s (e ∷ before) w ≡ true) j
held_at s ticks [] legal = tt
held_at s ticks (e ∷ j) legal =
    let good = lf.lawful s ticks (e ∷ j) legal in
    (held_at s ticks j legal.0, λ w. le-leb _ _ (few_held s (e ∷ j) w (po.seats s) good))

pub kept : (s : SharedPlan) (ticks : Option ℕ) (j : List Entry)
    → LegalBy (pooled_discipline s ticks) j → PoolsKept s ticks j
kept s ticks j legal = record { shared = kept_at s ticks j legal; processes = held_at s ticks j legal }
