-- What is due and what is next in a group by the tables, with Ticks and without, and what a Tick is
-- answered.
use Rattle.std.specs.Prelude.{◌≡◌, ℕ, zero, suc, ◌+◌, ◌<◌, ◌^◌, nat_le, nat_lt, Bool, false, ◌&&◌, ◌||◌, not, Option, Some, None, option_map, unwrap_or, if◌then◌else◌, length, slice_get}
use Rattle.run_plan.specs.declared.plan.Branch.{Branch}
use Rattle.run_plan.specs.declared.plan.Branch.TheVariants.{Local, Remote}
use Rattle.run_plan.specs.declared.plan.Plan.{Plan}
use Rattle.run_plan.specs.declared.plan.PlanAction.{PlanAction}
use Rattle.run_plan.specs.Groups.{is_remote}
use Rattle.list_lemmas.specs.Options.{or_else}
use Rattle.exec_journal.specs.declared.attempt.Attempt.{Attempt}
use Rattle.exec_journal.specs.Entries.{same_branch}
use Rattle.exec_journal.specs.declared.reply.Reply.{Reply}
use Rattle.exec_journal.specs.declared.reply.Reply.TheVariants as reply
use Rattle.ready_order.specs.Queue.{earliest_in, is_open_at, is_ready_at, queued_at}
use Rattle.retry_rules.specs.Counts.{ended_of}
use Rattle.core_state.specs.declared.state.State.{State}
use Rattle.core_state.specs.Choices.{is_over}
use Rattle.earliest_first.specs.Choices.{next_of}
use Rattle.placed_rules.specs.Due.{is_dual}
use Rattle.placed_berths.specs.Counts.{Facts, count_at, is_marked}

-- ---- which branch goes

abbrev pub is_dual_at : State → ℕ → Bool
is_dual_at s a = unwrap_or (option_map is_dual (slice_get s.plan.actions a)) false

-- its remote branch has no attempt left
abbrev pub is_dropped : State → ℕ → Bool
is_dropped s a = nat_le s.plan.limit (ended_of s.attempts a Remote)

abbrev pub has_waited : Facts → State → ℕ → Bool
has_waited f s a = not (is_dual_at s a) || (nat_le f.ticks (count_at f a) || is_dropped s a)

-- a local branch goes once it has waited
abbrev pub if_goes : Bool → Option Branch → Option Branch
if_goes waited (Some Local) = if waited then Some Local else None
if_goes waited (Some Remote) = Some Remote
if_goes waited None = None

abbrev pub branch_at : Facts → State → ℕ → ℕ → Option Branch
branch_at f s g a = if_goes (has_waited f s a) (queued_at s.ready g a)

-- of the n actions from a on the first that has a branch by this, with that branch
abbrev pub first_among : (ℕ → Option Branch) → ℕ → ℕ → Option (ℕ × Branch)
first_among here a zero = None
first_among here a (suc n) =
    or_else (option_map (λ b. (a, b)) (here a)) (first_among here (a + 1) n)

-- the first of all whose branch in the group goes
abbrev pub first_in : Facts → State → ℕ → Option (ℕ × Branch)
first_in f s g = first_among (branch_at f s g) 0 (length s.plan.actions)

-- ---- what is due in a group: without Ticks what is queued there, with Ticks what goes

abbrev pub due_in : Option Facts → State → ℕ → Option (ℕ × Branch)
due_in None s g = earliest_in s.ready g
due_in (Some f) s g = first_in f s g

-- its next attempt
abbrev pub next_in : Option Facts → State → ℕ → Option Attempt
next_in d s g = option_map (next_of s) (due_in d s g)

-- ---- which actions are known to wait

abbrev pub runs_executors : Plan → ℕ → Bool
runs_executors p g = unwrap_or (option_map (λ x. is_remote x.kind) (slice_get p.groups g)) false

-- it uses both branches, the remote one on executors
abbrev pub may_wait : Plan → PlanAction → Bool
may_wait p x =
    is_dual x && unwrap_or (option_map (runs_executors p) x.remote) false

-- where no Tick was made yet
abbrev pub first_mark : Plan → ℕ → PlanAction → ℕ
first_mark p n x = if may_wait p x && nat_lt 0 n then 0 else 1

-- the action whose remote branch begins its last attempt, so that it may be dropped
abbrev pub last_of : ℕ → Option Attempt → Option ℕ
last_of limit (Some t) = if same_branch t.branch Remote && nat_le limit t.number then Some t.action
    else None
last_of limit None = None

-- Of each action what is counted of it is there. In a group of workers no branch goes of an action
-- that isn't marked.
pub record ReadsDelay (f : Facts) (s : State) : Type 0 where
  pub states : length s.ready ≡ length s.plan.actions
  pub ended : length s.attempts.ended ≡ length s.plan.actions
  pub few : length s.plan.actions < 2 ^ 32
  pub marks : length f.marks ≡ length s.plan.actions
  pub unmarked : (g a : ℕ) → runs_executors s.plan g ≡ false → is_marked f a ≡ false
      → branch_at f s g a ≡ None

-- so, and the action is one of those
pub record AsksGroup (f : Facts) (s : State) (a : ℕ) : Type 0 where
  pub reads : ReadsDelay f s
  pub known : a < length s.ready

-- so where there are Ticks
abbrev pub ReadsDue : Option Facts → State → Type 0
ReadsDue None s = Unit {0}
ReadsDue (Some f) s = ReadsDelay f s

-- ---- a Tick

-- the local branch of the action waits for more Ticks
abbrev pub waits_at : Facts → State → ℕ → Bool
waits_at f s a =
    is_dual_at s a && (is_ready_at s.ready a && (is_open_at s.ready a
    && nat_lt (count_at f a) f.ticks))

-- so does one of the n actions from a on
abbrev pub some_among : Facts → State → ℕ → ℕ → Bool
some_among f s a zero = false
some_among f s a (suc n) = waits_at f s a || some_among f s (a + 1) n

abbrev pub some_waits : Facts → State → Bool
some_waits f s = some_among f s 0 (length s.plan.actions)

abbrev pub ticked : Facts → State → Reply
ticked f s = if is_over s then reply.Stop
    else (if some_waits f s then reply.Noted else reply.Idle)

-- where no lane makes Ticks
abbrev pub ticked_by : Option Facts → State → Reply
ticked_by None s = reply.Idle
ticked_by (Some f) s = ticked f s
