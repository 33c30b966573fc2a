-- The pools of a plan, whose berths the pool's groups share.
use Rattle.std.specs.Prelude.{◌≡◌, ℕ, suc, ◌-◌, ◌<◌, ◌≤◌, ◌==◌, nat_le, nat_lt, Bool, true, false, ◌&&◌, ◌||◌, not, Option, Some, None, unwrap_or, option_map, if◌then◌else◌, List, [], ◌∷◌, length, filter, sum_by}
use Rattle.std.specs.List.{list_all, list_any}
use Rattle.run_plan.specs.declared.plan.Kind.{Kind}
use Rattle.run_plan.specs.declared.plan.Kind.TheVariants as kind
use Rattle.run_plan.specs.Groups.{is_remote}
use Rattle.run_plan.specs.Limits.{most_berths}
use Rattle.exec_journal.specs.Seated.{kind_in}
use Rattle.placed_rules.specs.declared.pools.SharedPlan.{SharedPlan}
use Rattle.placed_rules.specs.declared.pools.SharedPool.{SharedPool}

-- berths are numbered pool by pool
abbrev pub pool_from : List SharedPool → ℕ → Option SharedPool
pool_from [] w = None
pool_from (x ∷ xs) w = if nat_lt w x.berths then Some x else pool_from xs (w - x.berths)

-- the pool of a berth
abbrev pub pool_of : SharedPlan → ℕ → Option SharedPool
pool_of s w = pool_from s.pools w

abbrev pub seats : SharedPlan → ℕ
seats s = sum_by (λ x. x.berths) s.pools

abbrev pub has_group : SharedPool → ℕ → Bool
has_group pool g = list_any (λ k. k == g) pool.groups

abbrev pub is_of_executor : SharedPlan → ℕ → Bool
is_of_executor s g = is_remote (kind_in s.plan (Some g))

abbrev pub has_executor : SharedPlan → SharedPool → Bool
has_executor s pool = list_any (is_of_executor s) pool.groups

-- the berth's processes are executors: its pool has a group of them
abbrev pub is_remote_berth : SharedPlan → ℕ → Bool
is_remote_berth s w = unwrap_or (option_map (has_executor s) (pool_of s w)) false

-- in a script a berth has a room where it isn't remote
abbrev pub berth_kind : SharedPlan → ℕ → Kind
berth_kind s w = if is_remote_berth s w then kind.Remote else kind.Single

-- the place of a berth's pool among these, the first of which has the number i
abbrev pub pool_at : List SharedPool → ℕ → ℕ → ℕ
pool_at [] i w = i
pool_at (x ∷ xs) i w = if nat_lt w x.berths then i else pool_at xs (suc i) (w - x.berths)

abbrev pub same_pool : SharedPlan → ℕ → ℕ → Bool
same_pool s v w = pool_at s.pools 0 v == pool_at s.pools 0 w

-- ---- what is asked of them

-- a pool with a group of executors has no group of another kind
abbrev pub is_apart : SharedPlan → SharedPool → Bool
is_apart s pool = not (has_executor s pool) || list_all (is_of_executor s) pool.groups

-- at most 64 berths; they name groups of the plan, each of which stands in one pool; and executors
-- stand apart
pub record SoundPools (s : SharedPlan) : Type 0 where
  pub berths : seats s ≤ most_berths
  pub named : list_all (λ pool. list_all (λ g. nat_lt g (length s.plan.groups)) pool.groups) s.pools
      ≡ true
  pub once : (g : ℕ) → g < length s.plan.groups
      → length (filter (λ pool. has_group pool g) s.pools) ≡ 1
  pub apart : list_all (is_apart s) s.pools ≡ true

-- what makes a discipline of the rule: they name groups of the plan, and executors stand apart
abbrev pub pools_fit : SharedPlan → Bool
pools_fit s =
    list_all (λ pool. list_all (λ g. nat_lt g (length s.plan.groups)) pool.groups) s.pools
    && list_all (is_apart s) s.pools

-- the same berths, of no group
abbrev pub without_groups : List SharedPool → List SharedPool
without_groups [] = []
without_groups (x ∷ xs) = record { groups = []; berths = x.berths } ∷ without_groups xs

abbrev pub usable_pools : SharedPlan → List SharedPool
usable_pools s = if nat_le (seats s) most_berths then (if pools_fit s then s.pools
    else without_groups s.pools) else []

-- the same plan, its pools without groups where they don't fit, and none where they have too many
-- berths
abbrev pub usable : SharedPlan → SharedPlan
usable s = record { plan = s.plan; pools = usable_pools s; instances = s.instances }

-- so many berths it has then, whatever the plan
abbrev pub usable_seats : List SharedPool → ℕ
usable_seats pools = if nat_le (sum_by (λ x. x.berths) pools) most_berths
    then sum_by (λ x. x.berths) pools else 0
