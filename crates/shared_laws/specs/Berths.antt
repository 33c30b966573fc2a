-- What a core's tables say of shared berths: which of them are vacant, which lines are idle, which
-- groups are starved, what is launched for them, and which line is given up.
use Rattle.std.specs.Prelude.{ℕ, zero, suc, ◌+◌, ◌*◌, ◌==◌, nat_lt, Bool, true, false, ◌&&◌, ◌||◌, not, Option, Some, None, is_some, is_none, option_map, option_and_then, unwrap_or, if◌then◌else◌, List, [], ◌∷◌, slice_get}
use Rattle.std.specs.List.{find, list_any}
use Rattle.run_plan.specs.declared.plan.Branch.{Branch}
use Rattle.run_plan.specs.declared.plan.Branch.TheVariants.{Local, Remote}
use Rattle.list_lemmas.specs.Options.{or_else}
use Rattle.exec_journal.specs.declared.attempt.Attempt.{Attempt}
use Rattle.exec_journal.specs.Rules.{when}
use Rattle.exec_journal.specs.Seated.{group_for}
use Rattle.worker_pool.specs.declared.LineRow.{LineRow}
use Rattle.worker_pool.specs.Rows.{last_of, is_live_row}
use Rattle.ready_order.specs.declared.ActionState.{ActionState}
use Rattle.ready_order.specs.declared.BranchState.{BranchState}
use Rattle.ready_order.specs.Queue.{earliest_in, may_begin}
use Rattle.core_tables.specs.declared.lanes.Owed.{Owed}
use Rattle.core_tables.specs.declared.lanes.Owed.TheVariants as order
use Rattle.core_tables.specs.Matches.{matches_of, is_waiting}
use Rattle.core_state.specs.declared.state.State.{State}
use Rattle.core_state.specs.Choices.{attempt_at}
use Rattle.core_state.specs.Machine.{order_at}
use Rattle.earliest_first.specs.Choices.{has_room, next_of}
use Rattle.placed_rules.specs.declared.pools.SharedPlan.{SharedPlan}
use Rattle.placed_rules.specs.declared.pools.SharedPool.{SharedPool}
use Rattle.placed_rules.specs.Needs.{most_lines}
use Rattle.placed_rules.specs.Pools.{has_group, same_pool, seats}
use Rattle.shared_laws.specs.Spoken.{is_before}

-- ---- berths

-- the group of the berth's last line
abbrev pub group_at : State → ℕ → Option ℕ
group_at s w = option_and_then (group_for s.plan) (attempt_at s w)

-- what is known of that line
abbrev pub line_at : State → ℕ → Option LineRow
line_at s w = option_and_then (λ l. slice_get s.pool.lines l) (last_of s.pool w)

abbrev pub is_launching : Owed → Bool
is_launching (order.Launch l t) = true
is_launching _ = false

abbrev pub is_gathering : Owed → Bool
is_gathering (order.Gather l n t e r) = true
is_gathering _ = false

-- that line is being launched, or was with success and hasn't both ended and been killed
abbrev pub line_holds : Owed → Option LineRow → Bool
line_holds o (Some x) = is_launching o || (x.started && not (x.ended && x.killed))
line_holds o None = false

-- the berth's last line may still have a process
abbrev pub holds : State → ℕ → Bool
holds s w = line_holds (order_at s (2 * w)) (line_at s w)

abbrev pub line_rests : Option LineRow → Bool
line_rests (Some x) = is_live_row x && ((x.pending == 0) && not x.bound)
line_rests None = false

-- it is live, nothing is pending on it or bound to it, and no match of the berth waits
abbrev pub rests : State → ℕ → Bool
rests s w = line_rests (line_at s w)
    && (is_none (find is_waiting (matches_of s.matches w))
    && not (is_gathering (order_at s (2 * w))))

-- so, and nothing of its group is queued
abbrev pub may_go : State → ℕ → Bool
may_go s w = rests s w && is_none (earliest_in s.ready (unwrap_or (group_at s w) 0))

abbrev pub line_is_killed : Option LineRow → Bool
line_is_killed (Some x) = x.killed && not x.ended
line_is_killed None = false

-- ---- groups

abbrev pub is_of_group : State → ℕ → ℕ → Bool
is_of_group s g w = unwrap_or (option_map (λ k. k == g) (group_at s w)) false

-- of the first n berths one has a live line of the group with a free place
abbrev pub some_free : State → ℕ → ℕ → Bool
some_free s g zero = false
some_free s g (suc n) = (is_of_group s g n && has_room s.pool n) || some_free s g n

-- so many of the first n berths have a line of the group that may still have a process
abbrev pub lines_held : State → ℕ → ℕ → ℕ
lines_held s g zero = 0
lines_held s g (suc n) =
    (if is_of_group s g n && holds s n then 1 else 0) + lines_held s g n

-- something of the group is queued, it has no free place, and it holds fewer lines than it may
abbrev pub is_starved : SharedPlan → State → SharedPool → ℕ → Bool
is_starved q s pool g = is_some (earliest_in s.ready g)
    && (not (some_free s g (seats q)) && nat_lt (lines_held s g (seats q)) (most_lines q pool g))

-- ---- what is launched

abbrev pub starved_group : SharedPlan → State → SharedPool → ActionState → BranchState → ℕ → Bool
starved_group q s pool x b g =
    has_group pool g && (may_begin s.ready g x b && is_starved q s pool g)

-- the branch of the action, where it is queued in a starved group of the pool
abbrev pub starved_branch : SharedPlan → State → SharedPool → ActionState → BranchState → Bool
starved_branch q s pool x b =
    unwrap_or (option_map (starved_group q s pool x b) b.group) false

-- of the actions from a on the first with such a branch: its local one, where both are
abbrev pub starved_from : SharedPlan → State → SharedPool → ℕ → List ActionState
    → Option (ℕ × Branch)
starved_from q s pool a [] = None
starved_from q s pool a (x ∷ xs) =
    or_else (when (starved_branch q s pool x x.local) (a, Local))
    (or_else (when (starved_branch q s pool x x.remote) (a, Remote))
    (starved_from q s pool (a + 1) xs))

abbrev pub next_starved : SharedPlan → State → SharedPool → Option Attempt
next_starved q s pool = option_map (next_of s) (starved_from q s pool 0 s.ready)

-- ---- which line is given up

-- one of the first n berths is of the pool of w and vacant
abbrev pub some_vacant : SharedPlan → State → ℕ → ℕ → Bool
some_vacant q s w zero = false
some_vacant q s w (suc n) = (same_pool q n w && not (holds s n)) || some_vacant q s w n

-- the line of v was killed and hasn't ended, or it may go and has been silent for longer than that
-- of w
abbrev pub goes_before : State → List ℕ → ℕ → ℕ → Bool
goes_before s spoken w v = line_is_killed (line_at s v)
    || (may_go s v && (not (v == w) && is_before v w spoken))

-- so for one of the first n berths of the pool of w
abbrev pub some_before : SharedPlan → State → List ℕ → ℕ → ℕ → Bool
some_before q s spoken w zero = false
some_before q s spoken w (suc n) =
    (same_pool q n w && goes_before s spoken w n) || some_before q s spoken w n

-- the line of the berth w of this pool may go, a group of the pool is starved, no berth of it is
-- vacant, and no line of it goes before
abbrev pub may_evict : SharedPlan → State → List ℕ → ℕ → SharedPool → Bool
may_evict q s spoken w pool =
    (may_go s w && list_any (is_starved q s pool) pool.groups)
    && (not (some_vacant q s w (seats q)) && not (some_before q s spoken w (seats q)))
