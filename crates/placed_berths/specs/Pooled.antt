-- What a core's tables say of the groups of a pool: which are starved, what is launched for them, and
-- which line is given up for one.
use Rattle.std.specs.Prelude.{ℕ, zero, suc, ◌==◌, nat_lt, Bool, false, ◌&&◌, ◌||◌, not, Option, Some, None, is_some, is_none, option_map, option_and_then, unwrap_or, if◌then◌else◌, List, length, slice_get}
use Rattle.std.specs.List.{list_any}
use Rattle.run_plan.specs.declared.plan.Branch.{Branch}
use Rattle.run_plan.specs.declared.plan.PlanAction.{PlanAction}
use Rattle.list_lemmas.specs.Options.{or_else}
use Rattle.exec_journal.specs.declared.attempt.Attempt.{Attempt}
use Rattle.core_state.specs.declared.state.State.{State}
use Rattle.earliest_first.specs.Choices.{next_of}
use Rattle.placed_rules.specs.declared.pools.SharedPlan.{SharedPlan}
use Rattle.placed_rules.specs.declared.pools.SharedPool.{SharedPool}
use Rattle.placed_rules.specs.Needs.{most_lines}
use Rattle.placed_rules.specs.Pools.{has_group, same_pool, seats}
use Rattle.shared_laws.specs.Berths.{group_at, line_at, line_is_killed, lines_held, rests, some_free, some_vacant, starved_from}
use Rattle.shared_laws.specs.Spoken.{is_before}
use Rattle.placed_berths.specs.Counts.{Facts}
use Rattle.placed_berths.specs.Due.{branch_at, due_in, first_among}

-- ---- groups

-- it has no free place, and holds fewer lines than it may
abbrev pub lacks_line : SharedPlan → State → SharedPool → ℕ → Bool
lacks_line q s pool g = not (some_free s g (seats q))
    && nat_lt (lines_held s g (seats q)) (most_lines q pool g)

-- so, and something of it is due
abbrev pub is_starved : SharedPlan → Option Facts → State → SharedPool → ℕ → Bool
is_starved q d s pool g = is_some (due_in d s g) && lacks_line q s pool g

-- ---- what is launched

-- the branch of the action that goes in this group of the pool, which lacks a line
abbrev pub lacking_in : SharedPlan → Facts → State → SharedPool → ℕ → ℕ → Option Branch
lacking_in q f s pool a g =
    if has_group pool g && lacks_line q s pool g then branch_at f s g a else None

-- the local branch of the action before its remote one
abbrev pub lacking_of : SharedPlan → Facts → State → SharedPool → ℕ → PlanAction → Option Branch
lacking_of q f s pool a x = or_else (option_and_then (lacking_in q f s pool a) x.local)
    (option_and_then (lacking_in q f s pool a) x.remote)

abbrev pub lacking_at : SharedPlan → Facts → State → SharedPool → ℕ → Option Branch
lacking_at q f s pool a =
    option_and_then (lacking_of q f s pool a) (slice_get s.plan.actions a)

-- the first of all actions with a branch that is due in a starved group of the pool
abbrev pub first_starved : SharedPlan → Option Facts → State → SharedPool → Option (ℕ × Branch)
first_starved q None s pool = starved_from q s pool 0 s.ready
first_starved q (Some f) s pool =
    first_among (lacking_at q f s pool) 0 (length s.plan.actions)

abbrev pub next_starved : SharedPlan → Option Facts → State → SharedPool → Option Attempt
next_starved q d s pool = option_map (next_of s) (first_starved q d s pool)

-- ---- which line is given up

-- the line is idle, and nothing of its group is due
abbrev pub may_go : Option Facts → State → ℕ → Bool
may_go d s w = rests s w && is_none (due_in d s (unwrap_or (group_at s w) 0))

-- the line of v was killed and hasn't ended, or it may go and has been silent for longer than that
-- of w
abbrev pub goes_before : Option Facts → State → List ℕ → ℕ → ℕ → Bool
goes_before d s spoken w v = line_is_killed (line_at s v)
    || (may_go d s v && (not (v == w) && is_before v w spoken))

-- so for one of the first n berths of the pool of w
abbrev pub some_before : SharedPlan → Option Facts → State → List ℕ → ℕ → ℕ → Bool
some_before q d s spoken w zero = false
some_before q d s spoken w (suc n) =
    (same_pool q n w && goes_before d s spoken w n) || some_before q d s spoken w n

-- the line of the berth w of this pool may go, a group of the pool is starved, no berth of it is
-- vacant, and no line of it goes before
abbrev pub may_evict : SharedPlan → Option Facts → State → List ℕ → ℕ → SharedPool → Bool
may_evict q d s spoken w pool =
    (may_go d s w && list_any (is_starved q d s pool) pool.groups)
    && (not (some_vacant q s w (seats q)) && not (some_before q d s spoken w (seats q)))
