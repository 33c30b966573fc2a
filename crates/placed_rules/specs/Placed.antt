-- The rule of a plan on its berths, with Ticks or without, as a scheduling discipline.
use Rattle.std.specs.Prelude.{ℕ, suc, ◌*◌, ◌==◌, Bool, true, false, Option, Some, None, List}
use Rattle.run_plan.specs.declared.plan.Kind.{Kind}
use Rattle.run_plan.specs.declared.plan.Plan.{Plan}
use Rattle.run_plan.specs.Groups.{berths, kind_of}
use Rattle.exec_journal.specs.declared.call.Call.{Call}
use Rattle.exec_journal.specs.Entry.{Entry}
use Rattle.exec_journal.specs.declared.reply.Reply.{Reply}
use Rattle.core_contract.specs.Discipline.{Discipline}
use Rattle.placed_rules.specs.declared.placed.Placed.{Placed}
use Rattle.placed_rules.specs.declared.placed.Seating.{Seating}
use Rattle.placed_rules.specs.declared.placed.Seating.TheVariants.{Own, Pools}
use Rattle.placed_rules.specs.declared.pools.SharedPlan.{SharedPlan}
use Rattle.placed_rules.specs.declared.pools.SharedPool.{SharedPool}
use Rattle.placed_rules.specs.Pools.{berth_kind, pools_fit, seats}
use Rattle.placed_rules.specs.Own.{own_rule_with}
use Rattle.placed_rules.specs.Shared.{pooled_rule}

-- ---- a plan on its groups' own berths, and on those of pools

abbrev pub placed : Plan → Seating → Option ℕ → Placed
placed p seating ticks = record { plan = p; seating = seating; ticks = ticks }

abbrev pub on_own : Plan → Option ℕ → Placed
on_own p ticks = placed p Own ticks

abbrev pub on_pools : SharedPlan → Option ℕ → Placed
on_pools s ticks = placed s.plan (Pools s.pools s.instances) ticks

abbrev pub shared_by : Plan → List SharedPool → ℕ → SharedPlan
shared_by p pools instances = record { plan = p; pools = pools; instances = instances }

-- ---- its berths

-- so many are served by a proxy lane and a tap lane
abbrev pub served_in : Plan → Seating → ℕ
served_in p Own = berths p
served_in p (Pools pools instances) = seats (shared_by p pools instances)

abbrev pub kind_in : Plan → Seating → ℕ → Kind
kind_in p Own w = kind_of p w
kind_in p (Pools pools instances) w = berth_kind (shared_by p pools instances) w

-- with Ticks one berth more stands behind those, of no group: it is never given a line
abbrev pub seats_with : Option ℕ → ℕ → ℕ
seats_with None served = served
seats_with (Some n) served = suc served

-- and its proxy lane makes the Ticks
abbrev pub ticks_with : Option ℕ → ℕ → ℕ → Bool
ticks_with None served lane = false
ticks_with (Some n) served lane = lane == 2 * served

-- ---- the rule

abbrev pub rule_in : Plan → Seating → Option ℕ → List Entry → ℕ → Call → Reply
rule_in p Own ticks j lane c = own_rule_with p ticks j lane c
rule_in p (Pools pools instances) ticks j lane c =
    pooled_rule (shared_by p pools instances) ticks j lane c

abbrev pub placed_discipline : Placed → Discipline
placed_discipline x = record {
  plan = x.plan;
  seats = seats_with x.ticks (served_in x.plan x.seating);
  served = served_in x.plan x.seating;
  kinds = kind_in x.plan x.seating;
  ticks = ticks_with x.ticks (served_in x.plan x.seating);
  rule = rule_in x.plan x.seating x.ticks;
}

-- what makes a discipline of it
abbrev pub fits_in : Plan → Seating → Bool
fits_in p Own = true
fits_in p (Pools pools instances) = pools_fit (shared_by p pools instances)

-- ---- some of them

abbrev pub pooled_discipline : SharedPlan → Option ℕ → Discipline
pooled_discipline s ticks = placed_discipline (on_pools s ticks)

-- of shared berths, where no branch waits
abbrev pub shared_discipline : SharedPlan → Discipline
shared_discipline s = pooled_discipline s None

-- of the plan's own berths, where a local branch waits for n Ticks
abbrev pub delayed_discipline : Plan → ℕ → Discipline
delayed_discipline p n = placed_discipline (on_own p (Some n))
