-- Each line of a berth runs a group of the berth's pool, and so does each order.
use Rattle.std.proofs.Common.{◌≡◌, ℕ, ◌-◌, ◌/◌, ◌==◌, nat_lt, Bool, true, false, not, cond, List, [], ◌∷◌, length, Option, Some, None, option_map, unwrap_or, inl, inr, refl, sym, ap, subst, ◌∙◌}
use Rattle.std.specs.List.{list_all, list_any}
use Rattle.std.proofs.lemmas.Bool.{eqb-true, ltb-true, and_parts, or_cases, or_left, or_right}
use Rattle.run_plan.specs.declared.plan.Kind.TheVariants as kind
use Rattle.run_plan.specs.Groups.{is_remote}
use Rattle.exec_journal.specs.declared.attempt.Attempt.{Attempt}
use Rattle.exec_journal.specs.declared.call.Call.TheVariants as call
use Rattle.exec_journal.specs.Entry.{Entry}
use Rattle.exec_journal.specs.History.{AtEach}
use Rattle.exec_journal.specs.Seated.{group_for}
use Rattle.exec_journal.specs.Words.{launch_of}
use Rattle.exec_journal.proofs.Ruled.{by_bool}
use Rattle.journal_laws.proofs.Claims.{clash, false_by}
use Rattle.journal_laws.proofs.Requests as q
use Rattle.core_contract.specs.Disciplines.{LegalBy}
use Rattle.core_contract.specs.Laws.{OrderFits, RunsOn}
use Rattle.discipline_laws.proofs.Seating.{IsOnLine, order_fits}
use Rattle.placed_rules.specs.declared.pools.SharedPlan.{SharedPlan}
use Rattle.placed_rules.specs.declared.pools.SharedPool.{SharedPool}
use Rattle.placed_rules.specs.Pools as po
use Rattle.placed_rules.specs.Pools.{pools_fit}
use Rattle.placed_rules.specs.Shared.{pooled_rule}
use Rattle.placed_rules.specs.Placed.{pooled_discipline}
use Rattle.placed_rules.specs.Kept.{is_for_starved, shared_kept}
use Rattle.placed_rules.proofs.PoolKeeping as ke
use Rattle.placed_rules.proofs.PoolLawful as lf

-- ---- lists

all_at : (test : ℕ → Bool) (g : ℕ) (gs : List ℕ) → list_any (λ k. k == g) gs ≡ true
    → list_all test gs ≡ true → test g ≡ true
all_at test g [] has all = absurd (cc)
all_at test g (k ∷ ks) has all =
    let parts = and_parts (test k) _ all in
    elim (or_cases (k == g) _ has) [
      | inl here ↦ subst (λ i. test i ≡ true) (eqb-true k g here) parts.0
      | inr later ↦ all_at test g ks later parts.1
    ]

any_at : (test : ℕ → Bool) (g : ℕ) (gs : List ℕ) → list_any (λ k. k == g) gs ≡ true
    → test g ≡ true → list_any test gs ≡ true
any_at test g [] has on = absurd (cc)
any_at test g (k ∷ ks) has on =
    elim (or_cases (k == g) _ has) [
      | inl here ↦ or_left (test k) _ (subst (λ i. test i ≡ true) (sym (eqb-true k g here)) on)
      | inr later ↦ or_right (test k) _ (any_at test g ks later on)
    ]

pool_passes : (test : SharedPool → Bool) (pools : List SharedPool) (w : ℕ) (pool : SharedPool)
    → list_all test pools ≡ true → po.pool_from pools w ≡ Some pool → test pool ≡ true
pool_passes test [] w pool all at = absurd (cc)
pool_passes test (x ∷ xs) w pool all at =
    let parts = and_parts (test x) _ all in
    by_bool (nat_lt w x.berths)
    (λ b. cond b (Some x) (po.pool_from xs (w - x.berths)) ≡ Some pool → test pool ≡ true)
    (λ _ here. let same : x ≡ pool = cc in subst (λ (y : SharedPool). test y ≡ true) same parts.0)
    (λ _ later. pool_passes test xs (w - x.berths) pool parts.1 later) at

-- ---- a group of a berth's pool

pub record IsPooled (s : SharedPlan) (w : ℕ) (o : Option ℕ) : Type 0 where
  pub pool : SharedPool
  pub at : po.pool_of s w ≡ Some pool
  pub group : ℕ
  pub is : o ≡ Some group
  pub member : po.has_group pool group ≡ true

for_starved : (s : SharedPlan) (ticks : Option ℕ) (j : List Entry) (w : ℕ) (o : Option ℕ)
    → is_for_starved s ticks j (po.pool_of s w) o ≡ true → IsPooled s w o
for_starved s ticks j w o h = by (po.pool_of s w) o refl refl h
  where
    by : (z : Option SharedPool) (y : Option ℕ) → po.pool_of s w ≡ z → o ≡ y
        → is_for_starved s ticks j z y ≡ true → IsPooled s w o
    by (Some pool) (Some g) at is m = record {
      pool = pool;
      at = at;
      group = g;
      is = is;
      member = (and_parts (po.has_group pool g) _ m).0;
    }
    by (Some pool) None at is m = absurd (cc)
    by None y at is m = absurd (cc)

launched_pooled : (s : SharedPlan) (ticks : Option ℕ) (j : List Entry) (l m : ℕ) (t : Attempt)
    → AtEach (λ before e. shared_kept s ticks before (e.lane / 2) e.reply ≡ true) j
    → launch_of j l ≡ Some (m, t) → IsPooled s (m / 2) (group_for s.plan t)
unfolding launch_of
launched_pooled s ticks [] l m t kept h = absurd (cc)
launched_pooled s ticks (e ∷ j) l m t kept h =
    by (q.launch_cases s.plan e j l m t h) (λ y. launched_pooled s ticks j l m t kept.0 y)
  where
    by : q.Launches s.plan e j l m t
        → (launch_of j l ≡ Some (m, t) → IsPooled s (m / 2) (group_for s.plan t))
        → IsPooled s (m / 2) (group_for s.plan t)
    by (q.Now is lane) ih =
        subst (λ i. IsPooled s (i / 2) (group_for s.plan t)) lane
        (for_starved s ticks j (e.lane / 2) (group_for s.plan t)
        (ke.kept_launch s ticks j (e.lane / 2) e.reply (l, t) kept.1 is))
    by (q.Before at) ih = ih at

-- ---- an executor's exactly where the berth is

remote_berth : (b : Bool) → is_remote (cond b kind.Remote kind.Single) ≡ b
remote_berth true = refl
remote_berth false = refl

alike : (s : SharedPlan) (pool : SharedPool) (g : ℕ) → po.is_apart s pool ≡ true
    → po.has_group pool g ≡ true → po.is_of_executor s g ≡ po.has_executor s pool
alike s pool g apart has =
    by_bool (po.has_executor s pool)
    (λ b. po.has_executor s pool ≡ b → po.is_of_executor s g ≡ b)
    (λ _ some. elim (or_cases (not (po.has_executor s pool)) _ apart) [
      | inl none ↦ absurd (let no : not true ≡ true = ap not (sym some) ∙ none in cc)
      | inr all ↦ all_at (po.is_of_executor s) g pool.groups has all
    ])
    (λ _ none. false_by _ (λ on. clash (po.has_executor s pool)
    (any_at (po.is_of_executor s) g pool.groups has on) none)) refl

runs_on : (s : SharedPlan) (w : ℕ) (t : Attempt) → pools_fit s ≡ true
    → IsPooled s w (group_for s.plan t) → RunsOn s.plan (is_remote (po.berth_kind s w)) t
runs_on s w t fit h =
    let both = and_parts _ (list_all (po.is_apart s) s.pools) fit in
    let named = pool_passes _ s.pools w h.pool both.0 h.at in
    let apart = pool_passes (po.is_apart s) s.pools w h.pool both.1 h.at in
    let berth : po.is_remote_berth s w ≡ po.has_executor s h.pool =
    ap (λ (o : Option SharedPool). unwrap_or (option_map (po.has_executor s) o) false) h.at in
    record {
      group = h.group;
      there = ltb-true h.group (length s.plan.groups) (all_at
          (λ g. nat_lt g (length s.plan.groups)) h.group h.pool.groups h.member named);
      of_branch = h.is;
      executor = alike s h.pool h.group apart h.member
          ∙ (sym berth ∙ sym (remote_berth (po.is_remote_berth s w)));
    }

-- ---- so each line and each order fits

pub launched_runs : (s : SharedPlan) (ticks : Option ℕ) (j : List Entry) (l m : ℕ) (t : Attempt)
    → pools_fit s ≡ true → LegalBy (pooled_discipline s ticks) j → launch_of j l ≡ Some (m, t)
    → RunsOn s.plan (is_remote (po.berth_kind s (m / 2))) t
launched_runs s ticks j l m t fit legal at =
    runs_on s (m / 2) t fit (launched_pooled s ticks j l m t (ke.kept_at s ticks j legal) at)

pub orders_fit : (s : SharedPlan) (ticks : Option ℕ) (j : List Entry) (lane : ℕ) → pools_fit s ≡ true
    → LegalBy (pooled_discipline s ticks) j
    → OrderFits s.plan (is_remote (po.berth_kind s (lane / 2))) (pooled_rule s ticks j lane call.Ask)
orders_fit s ticks j lane fit legal =
    let w = lane / 2 in
    order_fits s.plan j w (is_remote (po.berth_kind s w)) (lf.lawful s ticks j legal)
    (λ t on. runs_on s w t fit (on_line t on)) (pooled_rule s ticks j lane call.Ask)
    (lf.ask_told s ticks j w)
    (λ y is. runs_on s w y.1 fit (for_starved s ticks j w (group_for s.plan y.1)
    (ke.asked_launch s ticks j w y is)))
  where
    on_line : (t : Attempt) → IsOnLine s.plan j (lane / 2) t
        → IsPooled s (lane / 2) (group_for s.plan t)
    on_line t on =
        let at = on.own.owner.2 in
        let pooled = launched_pooled s ticks j on.line on.own.owner.0 on.own.owner.1
        (ke.kept_at s ticks j legal) at in
        let same = q.group_is s.plan j on.line on.own.owner.0 on.own.owner.1 at in
        subst (λ (o : Option ℕ). IsPooled s (lane / 2) o) (sym (on.group ∙ same))
        (subst (λ i. IsPooled s i (group_for s.plan on.own.owner.1)) on.own.owner.3 pooled)
