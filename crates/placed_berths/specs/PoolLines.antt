-- Lines stand on the berths of pools alone, with Ticks too; and what the tables say of them is so.
use Rattle.std.proofs.Common.{◌≡◌, ℕ, zero, suc, ◌+◌, ◌-◌, ◌/◌, ◌<◌, ◌≤◌, ◌==◌, nat_lt, Bool, true, false, ◌&&◌, ◌||◌, not, cond, List, [], ◌∷◌, Option, Some, None, option_map, unwrap_or, refl, ap, sym, subst, ◌∙◌, arith}
use Rattle.std.specs.Prelude.{option_and_then, sum_by}
use Rattle.std.proofs.lemmas.Bool.{eqb-true, ltb-false, ltb-true}
use Rattle.std.proofs.lemmas.List.Sums.{sum_by-cons}
use Rattle.list_lemmas.specs.Options.{or_else}
use Rattle.exec_journal.specs.declared.attempt.Attempt.{Attempt}
use Rattle.exec_journal.specs.Entry.{Entry}
use Rattle.exec_journal.specs.Entries.{launch_in}
use Rattle.exec_journal.specs.History.{AtEach}
use Rattle.exec_journal.specs.Rules.{is_vacant}
use Rattle.exec_journal.specs.Seated.{group_for, group_on}
use Rattle.exec_journal.specs.Words.{last_line}
use Rattle.exec_journal.proofs.Ruled.{by_bool}
use Rattle.core_state.specs.declared.state.State.{State}
use Rattle.core_contract.specs.Disciplines.{LegalBy}
use Rattle.core_laws.specs.Stands.{Stands}
use Rattle.earliest_first.specs.Choices.{has_room}
use Rattle.placed_rules.specs.declared.pools.SharedPlan.{SharedPlan}
use Rattle.placed_rules.specs.declared.pools.SharedPool.{SharedPool}
use Rattle.placed_rules.specs.Kept.{is_for_starved, shared_kept}
use Rattle.placed_rules.specs.Needs as needs
use Rattle.placed_rules.specs.Placed.{pooled_discipline, seats_with}
use Rattle.placed_rules.specs.Pools.{pool_from, pool_of, seats}
use Rattle.placed_rules.proofs.PoolKeeping as ke
use Rattle.shared_laws.specs.Berths as told
use Rattle.shared_laws.proofs.GroupLines as groups
use Rattle.shared_laws.proofs.Lines as li
use Rattle.shared_laws.proofs.StarvedGroups as sg

-- ---- a berth of a pool

abbrev berths_in : List SharedPool → ℕ
berths_in pools = sum_by (λ x. x.berths) pools

from_within : (xs : List SharedPool) (w : ℕ) (pool : SharedPool) → pool_from xs w ≡ Some pool
    → w < berths_in xs
from_within [] w pool at = absurd (cc)
from_within (x ∷ xs) w pool at =
    let all = sum_by-cons (λ (y : SharedPool). y.berths) x xs in
    by_bool (nat_lt w x.berths) (λ b. nat_lt w x.berths ≡ b
    → cond b (Some x) (pool_from xs (w - x.berths)) ≡ Some pool → w < berths_in (x ∷ xs))
    (λ yes _ _. let lt = ltb-true w x.berths yes in omega (arith, lt, all))
    (λ no _ later. let lt = from_within xs (w - x.berths) pool later in
    let ge = ltb-false w x.berths no in omega (arith, lt, ge, all)) refl at

pub pool_within : (q : SharedPlan) (w : ℕ) (pool : SharedPool) → pool_of q w ≡ Some pool
    → w < seats q
pool_within q w pool at = from_within q.pools w pool at

-- what is launched is on a berth of a pool
for_pool : (q : SharedPlan) (ticks : Option ℕ) (j : List Entry) (w : ℕ) (o : Option SharedPool)
    (g : Option ℕ) → pool_of q w ≡ o → is_for_starved q ticks j o g ≡ true → w < seats q
for_pool q ticks j w None g at h = absurd (cc)
for_pool q ticks j w (Some pool) g at h = pool_within q w pool at

launched_within : (q : SharedPlan) (ticks : Option ℕ) (j : List Entry) (w l : ℕ)
    → AtEach (λ before e. shared_kept q ticks before (e.lane / 2) e.reply ≡ true) j
    → last_line j w ≡ Some l → w < seats q
unfolding last_line
launched_within q ticks [] w l kept h = absurd (cc)
launched_within q ticks (e ∷ j) w l kept h =
    by_bool (e.lane / 2 == w) (λ b. (e.lane / 2 == w) ≡ b → or_else (cond b (option_map (λ x. x.0)
    (launch_in e.reply)) None) (last_line j w) ≡ Some l → w < seats q)
    (λ yes _ k. by (launch_in e.reply) refl (eqb-true (e.lane / 2) w yes) k
    (λ before. launched_within q ticks j w l kept.0 before))
    (λ _ _ k. launched_within q ticks j w l kept.0 k) refl h
  where
    by : (o : Option (ℕ × Attempt)) → launch_in e.reply ≡ o → e.lane / 2 ≡ w
        → or_else (option_map (λ x. x.0) o) (last_line j w) ≡ Some l
        → (last_line j w ≡ Some l → w < seats q) → w < seats q
    by None is same k before = before k
    by (Some y) is same k before =
        subst (λ v. v < seats q) same (for_pool q ticks j (e.lane / 2) (pool_of q (e.lane / 2))
        (group_for q.plan y.1) refl
        (ke.kept_launch q ticks j (e.lane / 2) e.reply y kept.1 is))

pub line_within : (q : SharedPlan) (ticks : Option ℕ) (j : List Entry) (w l : ℕ)
    → LegalBy (pooled_discipline q ticks) j → last_line j w ≡ Some l → w < seats q
line_within q ticks j w l legal here =
    launched_within q ticks j w l (ke.kept_at q ticks j legal) here

-- the berth that is more has none
no_line : (q : SharedPlan) (ticks : Option ℕ) (j : List Entry)
    → LegalBy (pooled_discipline q ticks) j → (o : Option ℕ) → last_line j (seats q) ≡ o
    → o ≡ None
no_line q ticks j legal None here = refl
no_line q ticks j legal (Some l) here =
    absurd (let lt = line_within q ticks j (seats q) l legal here in omega (arith, lt))

-- ---- the tables, whose berths are as many as those of one pool

abbrev pub one_pool : SharedPlan → ℕ → SharedPlan
one_pool q n = record {
  plan = q.plan;
  pools = record { groups = []; berths = n } ∷ [];
  instances = 0;
}

module _ (q : SharedPlan) (n : ℕ) (s : State) (j : List Entry) (st : Stands q.plan n s j) where
  as_many : seats (one_pool q n) ≡ n
  as_many = let e : 0 + n ≡ n = omega arith in e

  pub as_pool : Stands q.plan (seats (one_pool q n)) s j
  as_pool = subst (λ k. Stands q.plan k s j) (sym as_many) st

  pub vacant_is : (w : ℕ) → not (told.holds s w) ≡ is_vacant j (last_line j w)
  vacant_is w = li.vacant_is (one_pool q n) s j w as_pool

  pub held_at : groups.HeldAt s j
  held_at = li.held_at (one_pool q n) s j as_pool

  pub free_is : (g : ℕ) → not (told.some_free s g n) ≡ needs.none_free q j g
  free_is g = ap (λ k. not (told.some_free s g k)) (sym as_many)
      ∙ sg.free_is_told (one_pool q n) s j as_pool g

  pub held_is : (g : ℕ) → told.lines_held s g n ≡ needs.lines_held q j g
  held_is g = ap (told.lines_held s g) (sym as_many)
      ∙ sg.held_is_told (one_pool q n) s j as_pool held_at g

-- ---- with Ticks and without, of the pools' berths alone

module _ (q : SharedPlan) (ticks : Option ℕ) (s : State) (j : List Entry)
    (st : Stands q.plan (seats_with ticks (seats q)) s j)
    (legal : LegalBy (pooled_discipline q ticks) j) where
  -- the berth that is more is of no group
  no_group : (n : ℕ) → ticks ≡ Some n → (g : ℕ) → told.is_of_group s g (seats q) ≡ false
  no_group n is g =
      let more : Stands q.plan (suc (seats q)) s j =
      subst (λ t. Stands q.plan (seats_with t (seats q)) s j) is st in
      let none = no_line q ticks j legal (last_line j (seats q)) refl in
      ap (λ (o : Option ℕ). unwrap_or (option_map (λ k. k == g) o) false)
      (groups.group_is q.plan (suc (seats q)) s j more (seats q) (omega arith) None none)

  pub pools_free : (g : ℕ) → not (told.some_free s g (seats q)) ≡ needs.none_free q j g
  pools_free g = by ticks refl
    where
      by : (t : Option ℕ) → ticks ≡ t
          → not (told.some_free s g (seats q)) ≡ needs.none_free q j g
      by None is = free_is q (seats q) s j
          (subst (λ t. Stands q.plan (seats_with t (seats q)) s j) is st) g
      by (Some n) is =
          ap (λ b. not ((b && has_room s.pool (seats q)) || told.some_free s g (seats q)))
          (sym (no_group n is g))
          ∙ free_is q (suc (seats q)) s j
          (subst (λ t. Stands q.plan (seats_with t (seats q)) s j) is st) g

  pub pools_held : (g : ℕ) → told.lines_held s g (seats q) ≡ needs.lines_held q j g
  pools_held g = by ticks refl
    where
      by : (t : Option ℕ) → ticks ≡ t
          → told.lines_held s g (seats q) ≡ needs.lines_held q j g
      by None is = held_is q (seats q) s j
          (subst (λ t. Stands q.plan (seats_with t (seats q)) s j) is st) g
      by (Some n) is =
          let e : told.lines_held s g (seats q) ≡ 0 + told.lines_held s g (seats q) = omega arith in
          e ∙ ap (λ b. cond (b && told.holds s (seats q)) 1 0 + told.lines_held s g (seats q))
          (sym (no_group n is g))
          ∙ held_is q (suc (seats q)) s j
          (subst (λ t. Stands q.plan (seats_with t (seats q)) s j) is st) g
