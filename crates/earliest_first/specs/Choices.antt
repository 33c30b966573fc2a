-- What is chosen for an Ask on a plan's own berths, as a function of the tables and of what is next in
-- each group: where a line may be given something new, it is that of its berth's group; and a line is
-- launched for it where no live one of the group has a free place.
use Rattle.std.specs.Prelude.{ℕ, zero, suc, ◌+◌, ◌<◌, ◌≤◌, ◌^◌, nat_lt, Bool, false, ◌&&◌, true, ◌||◌, not, Option, Some, None, is_some, option_map, unwrap_or, if◌then◌else◌, length, slice_get}
use Rattle.std.specs.List.{find}
use Rattle.run_plan.specs.declared.plan.Branch.{Branch}
use Rattle.run_plan.specs.Groups.{berths, is_single, is_remote}
use Rattle.list_lemmas.specs.Options.{or_else}
use Rattle.exec_journal.specs.declared.attempt.Attempt.{Attempt}
use Rattle.exec_journal.specs.declared.ends.Cause.{Cause}
use Rattle.exec_journal.specs.declared.reply.Why.TheVariants as why
use Rattle.exec_journal.specs.Entries.{attempt_of}
use Rattle.exec_journal.specs.Rules.{when}
use Rattle.exec_journal.specs.Words.{why_of}
use Rattle.worker_pool.specs.declared.LineRow.{LineRow}
use Rattle.worker_pool.specs.Rows as pool
use Rattle.cancel_rules.specs.Marks.{cancel_of}
use Rattle.ready_order.specs.Queue.{earliest_in}
use Rattle.retry_rules.specs.Counts.{ended_of}
use Rattle.core_tables.specs.declared.greetings.Greeting.{Greeting}
use Rattle.core_tables.specs.declared.matches.Match.{Match}
use Rattle.core_tables.specs.declared.berth_group.BerthGroup.{BerthGroup}
use Rattle.core_tables.specs.Matches.{matches_of, is_waiting}
use Rattle.core_tables.specs.Seats.{seat_at}
use Rattle.core_state.specs.declared.choice.Choice.{Choice}
use Rattle.core_state.specs.declared.choice.Choice.TheVariants as choice
use Rattle.core_state.specs.declared.state.State.{State}
use Rattle.core_state.specs.Choices.{Reads, row_at, cause_at, attempt_at, is_over}

-- what a choice on the berth reads is there, and so are the plan's berths
pub record ReadsOwn (s : State) (w : ℕ) : Type 0 where
  pub reads : Reads s w
  pub groups : length s.plan.groups < 2 ^ 32
  pub seats : berths s.plan ≤ length s.pool.seats

abbrev pub is_runner : LineRow → Bool
is_runner x = x.started && not x.killed

abbrev pub is_vacant_row : LineRow → Bool
is_vacant_row x = not x.started || (x.ended && x.killed)

abbrev pub leave_by : ℕ → LineRow → Choice
leave_by l x = if is_runner x then choice.Kill l why.Quit else choice.Stop

abbrev pub kill_by : ℕ → LineRow → Option Cause → Option Choice
kill_by l x c = if is_runner x then option_map (λ y. choice.Kill l (why_of y)) c else None

abbrev pub unwanted_by : State → BerthGroup → ℕ → LineRow → Bool
unwanted_by s seat l x = is_runner x && (is_single seat.kind
    && (not seat.cancel && is_some (cancel_of s.cancels l)))

abbrev pub waiting_at : State → ℕ → Option Match
waiting_at s w = find is_waiting (matches_of s.matches w)

abbrev pub greeted_on : Option Greeting → Bool
greeted_on (Some x) = x.greeted
greeted_on None = false

-- the line's group has cancellation, or it is an executor's line and has greeted
abbrev pub may_cancel_by : State → ℕ → BerthGroup → Bool
may_cancel_by s w seat = seat.cancel || (is_remote seat.kind
    && greeted_on (slice_get s.greetings w))

abbrev pub cancel_by : State → ℕ → BerthGroup → ℕ → LineRow → Option Choice
cancel_by s w seat l x = if pool.is_live_row x && may_cancel_by s w seat then option_map
    (choice.Cancel l) (cancel_of s.cancels l) else None

abbrev pub next_of : State → ℕ × Branch → Attempt
next_of s x = attempt_of x.0 x.1 (ended_of s.attempts x.0 x.1 + 1)

abbrev pub earliest_of : State → ℕ → Option Attempt
earliest_of s g = option_map (next_of s) (earliest_in s.ready g)

abbrev pub send_by : State → ℕ → Option Attempt → ℕ → LineRow → Option Choice
send_by s w next l x =
    if pool.is_live_row x then
    (if x.bound then option_map (choice.Send l) (attempt_at s w)
    else if nat_lt 0 (pool.free_of s.pool l) then option_map (choice.Send l) next else None)
    else None

abbrev pub line_has_room : pool.Facts → Option ℕ → Bool
line_has_room f (Some l) = nat_lt 0 (pool.free_of f l)
line_has_room f None = false

-- the berth's last line is live and has a free place
abbrev pub has_room : pool.Facts → ℕ → Bool
has_room f w = line_has_room f (pool.live_of f w)

-- so for some of the n berths from w on
abbrev pub some_room : pool.Facts → ℕ → ℕ → Bool
some_room f w zero = false
some_room f w (suc n) = has_room f (w + n) || some_room f w n

abbrev pub launch_for : Option Attempt → Choice
launch_for (Some t) = choice.Launch t
launch_for None = choice.Idle

abbrev pub launch_by : State → BerthGroup → Option Attempt → Choice
launch_by s seat next =
    if some_room s.pool seat.first seat.berths then choice.Idle else launch_for next

-- ---- the first rules, of which nothing asks where new lines come: quit, kill a broken line, kill an
-- unwanted request's line, gather, cancel, send

-- of a berth whose last line is known, where so is next in the line's group
abbrev pub first_with : State → ℕ → BerthGroup → Option Attempt → ℕ → LineRow → Option Choice
first_with s w seat next l x =
    or_else (when (is_over s) (leave_by l x))
    (or_else (kill_by l x (cause_at s w))
    (or_else (when (unwanted_by s seat l x) (choice.Kill l why.Unwanted))
    (or_else (option_map choice.Gather (waiting_at s w))
    (or_else (cancel_by s w seat l x) (send_by s w next l x)))))

-- of a berth without a line
abbrev pub first_without : State → ℕ → Option Choice
first_without s w =
    or_else (when (is_over s) choice.Stop) (option_map choice.Gather (waiting_at s w))

abbrev pub first_at : State → ℕ → BerthGroup → Option Attempt → Option ℕ → Option Choice
first_at s w seat next (Some l) = first_with s w seat next l (row_at s l)
first_at s w seat next None = first_without s w

abbrev pub first_choice : State → ℕ → BerthGroup → Option Attempt → Option Choice
first_choice s w seat next = first_at s w seat next (pool.last_of s.pool w)

-- ---- by what is next in the berth's group

abbrev pub is_vacant_line : State → Option ℕ → Bool
is_vacant_line s (Some l) = is_vacant_row (row_at s l)
is_vacant_line s None = true

-- the berth has no line, or its last is vacant
abbrev pub is_vacant : State → ℕ → Bool
is_vacant s w = is_vacant_line s (pool.last_of s.pool w)

-- a launch, where the berth is vacant
abbrev pub last_choice : State → ℕ → BerthGroup → Option Attempt → Choice
last_choice s w seat next = if is_vacant s w then launch_by s seat next else choice.Idle

abbrev pub choice_on : State → ℕ → BerthGroup → Option Attempt → Choice
choice_on s w seat next =
    unwrap_or (first_choice s w seat next) (last_choice s w seat next)

-- ---- by what is next in each group

abbrev pub choice_for : State → ℕ → (ℕ → Option Attempt) → Option BerthGroup → Choice
choice_for s w next (Some seat) = choice_on s w seat (next seat.group)
choice_for s w next None = choice.Idle

abbrev pub chosen_by : (ℕ → Option Attempt) → State → ℕ → Choice
chosen_by next s w = choice_for s w next (seat_at s.plan w)

-- the earliest queued action of the group is next
abbrev pub chosen : State → ℕ → Choice
chosen s w = chosen_by (earliest_of s) s w
