-- By which plan, berths and Ticks a policy goes.
use Rattle.std.specs.Prelude.{ℕ, Option, Some, None, List, []}
use Rattle.run_plan.specs.declared.plan.Plan.{Plan}
use Rattle.placed_rules.specs.declared.placed.Placed.{Placed}
use Rattle.placed_rules.specs.declared.placed.Seating.{Seating}
use Rattle.placed_rules.specs.declared.placed.Seating.TheVariants as seating
use Rattle.placed_rules.specs.declared.pools.SharedPlan.{SharedPlan}
use Rattle.placed_rules.specs.Placed as rules
use Rattle.placed_rules.specs.Pools.{SoundPools, usable_pools}
use Rattle.placed_berths.specs.declared.policy.PlacedBerths.{PlacedBerths}
use Rattle.placed_berths.specs.declared.policy.Berths.{Berths}
use Rattle.placed_berths.specs.declared.policy.Berths.TheVariants as own
use Rattle.placed_berths.specs.declared.shared.SharedBerths.{SharedBerths}
use Rattle.placed_berths.specs.Counts.{Facts}

-- the pools of a policy, where the core's tables are of this plan
abbrev pub shared_by : SharedBerths → Plan → SharedPlan
shared_by x p = rules.shared_by p x.pools x.instances

abbrev pub seating_in : Berths → Seating
seating_in own.Own = seating.Own
seating_in (own.Shared x) = seating.Pools x.pools x.instances

abbrev pub ticks_in : Option Facts → Option ℕ
ticks_in None = None
ticks_in (Some f) = Some f.ticks

abbrev pub placed_by : PlacedBerths → Plan → Placed
placed_by m p = rules.placed p (seating_in m.seating) (ticks_in m.delay)

-- ---- what makes a discipline of it

-- pools that don't fit lose their groups
abbrev pub usable_in : Plan → Seating → Seating
usable_in p seating.Own = seating.Own
usable_in p (seating.Pools pools instances) =
    seating.Pools (usable_pools (rules.shared_by p pools instances)) instances

abbrev pub usable_placed : Placed → Placed
usable_placed b = rules.placed b.plan (usable_in b.plan b.seating) b.ticks

abbrev pub SoundSeating : Plan → Seating → Type 0
SoundSeating p seating.Own = Unit {0}
SoundSeating p (seating.Pools pools instances) = SoundPools (rules.shared_by p pools instances)
