-- What stands at a berth, and what is chosen for an Ask there, as functions of the tables.
use Rattle.std.specs.Prelude.{◌≡◌, ℕ, ◌*◌, ◌<◌, ◌≤◌, nat_lt, false, not, Option, Some, None, option_map, unwrap_or, if◌then◌else◌, List, length}
use Rattle.run_plan.specs.declared.plan.Kind.{Kind}
use Rattle.run_plan.specs.declared.plan.Kind.TheVariants as kind
use Rattle.run_plan.specs.declared.plan.Plan.{Plan}
use Rattle.run_plan.specs.Groups.{has_cancellation}
use Rattle.run_plan.specs.Limits.{most_berths}
use Rattle.list_lemmas.specs.Options.{or_else}
use Rattle.exec_journal.specs.declared.reply.Why.TheVariants as why
use Rattle.exec_journal.specs.Rules.{when}
use Rattle.exec_journal.specs.Seated.{kind_in}
use Rattle.worker_pool.specs.Rows.{last_of}
use Rattle.core_tables.specs.declared.berth_group.BerthGroup.{BerthGroup}
use Rattle.core_tables.specs.Seats.{seat_at}
use Rattle.core_state.specs.declared.choice.Choice.{Choice}
use Rattle.core_state.specs.declared.choice.Choice.TheVariants as choice
use Rattle.core_state.specs.declared.state.State.{State}
use Rattle.core_state.specs.Choices.{Reads, is_over}
use Rattle.earliest_first.specs.Choices.{choice_on, first_choice}
use Rattle.placed_rules.specs.declared.pools.SharedPlan.{SharedPlan}
use Rattle.placed_rules.specs.declared.pools.SharedPool.{SharedPool}
use Rattle.placed_rules.specs.Placed.{seats_with}
use Rattle.placed_rules.specs.Pools.{berth_kind, pool_of, seats}
use Rattle.spawn_core.specs.Policies.{ReadsEach}
use Rattle.shared_laws.specs.Berths.{group_at, holds}
use Rattle.placed_berths.specs.declared.policy.PlacedBerths.{PlacedBerths}
use Rattle.placed_berths.specs.declared.policy.Berths.{Berths}
use Rattle.placed_berths.specs.declared.policy.Berths.TheVariants.{Own, Shared}
use Rattle.placed_berths.specs.Basis.{shared_by, ticks_in}
use Rattle.placed_berths.specs.Counts.{Facts}
use Rattle.placed_berths.specs.Due.{ReadsDue, next_in}
use Rattle.placed_berths.specs.Pooled.{may_evict, next_starved}

-- ---- on own berths

-- with Ticks there is one berth more, of no group: no line is ever launched there
abbrev pub spare : Plan → BerthGroup
spare p = record {
  group = length p.groups;
  first = 0;
  berths = 0;
  kind = kind.Single;
  cancel = false;
}

abbrev pub seat_or_spare : Option Facts → Plan → Option BerthGroup → Option BerthGroup
seat_or_spare d p (Some seat) = Some seat
seat_or_spare d p None = option_map (λ f. spare p) d

abbrev pub own_seat : Option Facts → State → ℕ → Option BerthGroup
own_seat d s w = seat_or_spare d s.plan (seat_at s.plan w)

abbrev pub leave_idly : State → Choice
leave_idly s = if is_over s then choice.Stop else choice.Idle

abbrev pub own_choice_at : Option Facts → State → ℕ → Option BerthGroup → Choice
own_choice_at d s w (Some seat) = choice_on s w seat (next_in d s seat.group)
own_choice_at d s w None = leave_idly s

abbrev pub own_choice : Option Facts → State → ℕ → Choice
own_choice d s w = own_choice_at d s w (seat_at s.plan w)

-- ---- on the berths of pools

-- of so many berths all that is read is there
pub record ReadsBelow (n : ℕ) (s : State) : Type 0 where
  pub lanes : 2 * n ≤ length s.lanes
  pub each : (w : ℕ) → w < n → Reads s w

-- with the one that is more
abbrev pub all_seats : SharedPlan → Option Facts → ℕ
all_seats q d = seats_with (ticks_in d) (seats q)

-- of the berths of the pools, which are few
pub record ReadsPools (q : SharedPlan) (s : State) : Type 0 where
  pub few : seats q ≤ most_berths
  pub berths : ReadsBelow (seats q) s

-- so, and of that one, and what is read of what is due
pub record ReadsShared (q : SharedPlan) (d : Option Facts) (s : State) : Type 0 where
  pub pools : ReadsPools q s
  pub all : ReadsBelow (all_seats q d) s
  pub due : ReadsDue d s

-- the group of its line, where it has one; else no group's line of the kind of the berth
abbrev pub seat_of : Plan → Kind → Option ℕ → BerthGroup
seat_of p k (Some g) = record {
  group = g;
  first = 0;
  berths = 0;
  kind = kind_in p (Some g);
  cancel = has_cancellation p g;
}
seat_of p k None = record {
  group = 0;
  first = 0;
  berths = 0;
  kind = k;
  cancel = has_cancellation p 0;
}

abbrev pub seat_here : SharedPlan → State → ℕ → BerthGroup
seat_here q s w = seat_of s.plan (berth_kind q w) (group_at s w)

abbrev pub shared_seat : SharedPlan → Option Facts → State → ℕ → Option BerthGroup
shared_seat q d s w = if nat_lt w (all_seats q d) then Some (seat_here q s w) else None

-- the berth's last line is given up
abbrev pub evicts_line : SharedPlan → Option Facts → State → List ℕ → ℕ → SharedPool → Option ℕ → Option Choice
evicts_line q d s spoken w pool (Some l) =
    when (may_evict q d s spoken w pool) (choice.Kill l why.Evicted)
evicts_line q d s spoken w pool None = None

abbrev pub evicts : SharedPlan → Option Facts → State → List ℕ → ℕ → SharedPool → Option Choice
evicts q d s spoken w pool = evicts_line q d s spoken w pool (last_of s.pool w)

-- a line is launched for a starved group, where the berth is vacant
abbrev pub launches : SharedPlan → Option Facts → State → ℕ → SharedPool → Option Choice
launches q d s w pool =
    if not (holds s w) then option_map choice.Launch (next_starved q d s pool) else None

abbrev pub pool_choice : SharedPlan → Option Facts → State → List ℕ → ℕ → Option SharedPool → Option Choice
pool_choice q d s spoken w (Some pool) =
    or_else (evicts q d s spoken w pool) (launches q d s w pool)
pool_choice q d s spoken w None = None

-- by what stands at the berth, and by what is next in its group
abbrev pub shared_choice_at : SharedPlan → Option Facts → State → List ℕ → ℕ → BerthGroup → Choice
shared_choice_at q d s spoken w seat =
    unwrap_or (or_else (first_choice s w seat (next_in d s seat.group))
    (pool_choice q d s spoken w (pool_of q w))) choice.Idle

abbrev pub shared_choice : SharedPlan → Option Facts → State → List ℕ → ℕ → Choice
shared_choice q d s spoken w = shared_choice_at q d s spoken w (seat_here q s w)

-- ---- on either

abbrev pub ReadsOn : Berths → Option Facts → State → Type 0
ReadsOn Own d s = ReadsEach s
ReadsOn (Shared x) d s = ReadsShared (shared_by x s.plan) d s

pub record ReadsPlaced (m : PlacedBerths) (s : State) : Type 0 where
  pub berths : ReadsOn m.seating m.delay s
  pub due : ReadsDue m.delay s

abbrev pub seat_on : Berths → Option Facts → State → ℕ → Option BerthGroup
seat_on Own d s w = own_seat d s w
seat_on (Shared x) d s w = shared_seat (shared_by x s.plan) d s w

abbrev pub choice_at : Berths → Option Facts → State → ℕ → Choice
choice_at Own d s w = own_choice d s w
choice_at (Shared x) d s w = shared_choice (shared_by x s.plan) d s x.spoken.items w

abbrev pub seated : PlacedBerths → State → ℕ → Option BerthGroup
seated m s w = seat_on m.seating m.delay s w

abbrev pub chosen : PlacedBerths → State → ℕ → Choice
chosen m s w = choice_at m.seating m.delay s w
