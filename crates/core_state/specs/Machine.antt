-- What each call makes of the tables.
use Rattle.std.specs.Prelude.{◌≡◌, ◌≢◌, ℕ, zero, suc, ◌+◌, ◌^◌, ◌<◌, ◌≤◌, ◌==◌, nat_lt, nat_le, Bool, false, not, ◌&&◌, ◌||◌, Option, Some, None, is_some, option_and_then, if◌then◌else◌, List, length, slice_get, ℤ, pos}
use Rattle.run_plan.specs.declared.plan.Branch.{Branch}
use Rattle.run_plan.specs.declared.plan.Branch.TheVariants.{Local, Remote}
use Rattle.run_plan.specs.declared.plan.Plan.{Plan}
use Rattle.exec_journal.specs.declared.call.CommitEnd.{CommitEnd}
use Rattle.exec_journal.specs.declared.call.Found.{Found}
use Rattle.exec_journal.specs.declared.call.Found.TheVariants as found
use Rattle.exec_journal.specs.declared.call.Started.{Started}
use Rattle.exec_journal.specs.declared.attempt.Attempt.{Attempt}
use Rattle.exec_journal.specs.declared.reply.Reply.{Reply}
use Rattle.exec_journal.specs.declared.reply.Reply.TheVariants as reply
use Rattle.exec_journal.specs.Entries as entries
use Rattle.exec_journal.specs.Seated.{kind_for}
use Rattle.run_plan.specs.Groups.{group_of}
use Rattle.list_lemmas.specs.Places.{update}
use Rattle.worker_pool.specs.Rows as rows
use Rattle.request_table.specs.Rows as asks
use Rattle.cancel_rules.specs.Marks as marks
use Rattle.ready_order.specs.Queue as queue
use Rattle.ready_order.specs.declared.ActionState.{ActionState}
use Rattle.race_core.specs.declared.Won.{Won}
use Rattle.race_core.specs.Rows as wins
use Rattle.race_core.specs.Stands.{is_done}
use Rattle.retry_rules.specs.Counts as counts
use Rattle.core_tables.specs.declared.lanes.LaneState.{LaneState}
use Rattle.core_tables.specs.declared.lanes.Owed.{Owed}
use Rattle.core_tables.specs.declared.lanes.Owed.TheVariants as order
use Rattle.core_tables.specs.declared.last.LastLine.{LastLine}
use Rattle.core_state.specs.declared.choice.Choice.{Choice}
use Rattle.core_state.specs.declared.choice.Choice.TheVariants as choice
use Rattle.core_state.specs.declared.state.State.{State}
use Rattle.core_state.specs.Choices.{row_at, is_over}
use Rattle.core_tables.specs.Last.{no_line, set_launched, set_taken}
use Rattle.core_tables.specs.Matches.{with_spent, with_clear, with_won}

-- ---- Send

abbrev pub number_of : State → ℕ → Attempt → ℤ
number_of s l t = pos (asks.next_number s.requests l t.action t.branch)

abbrev pub sent_reply : State → ℕ → Attempt → Reply
sent_reply s l t = reply.Send l (number_of s l t) t.action t.branch t.number

abbrev pub occupied : rows.Facts → ℕ → Bool → rows.Facts
occupied f l bound = if bound then rows.change (rows.change f l rows.one_more) l rows.set_unbound
    else rows.change f l rows.one_more

abbrev pub begun_by : List ActionState → Attempt → Bool → List ActionState
begun_by states t bound = if bound then states else queue.with_taken states t.action t.branch

abbrev pub sent : State → ℕ → ℕ → Attempt → Bool → State
sent s w l t bound = record s {
  pool = occupied s.pool l bound;
  requests = asks.with_send s.requests l t.action t.branch t.number;
  cancels = marks.with_sent s.cancels l (number_of s l t) t.action;
  ready = begun_by s.ready t bound;
  matches = with_clear s.matches w;
}

pub record CanSend (s : State) (w l : ℕ) (t : Attempt) : Type 0 where
  pub berth : w < length s.matches
  pub line : l < length s.pool.lines
  pub place : rows.pending_of s.pool l < rows.capacity_of s.pool l
  pub requests : l < length s.requests.lines
  pub planned : t.action < length s.requests.singles
  pub free : length (asks.open_of s.requests l) < asks.capacity_of
      (asks.single_of s.requests t.action t.branch)
  pub fewer : asks.last_of s.requests l < length s.requests.lines
  pub cancels : l < length s.cancels.lines
  pub row : length (marks.rows_of s.cancels l) < 8
  pub known : t.action < length s.ready
  pub small : asks.next_number s.requests l t.action t.branch < 2 ^ 31

-- ---- Launch

abbrev pub launched_reply : State → Attempt → Reply
launched_reply s t = reply.Launch (length s.pool.lines) t.action t.branch t.number

abbrev pub launched_for : State → ℕ → Attempt → State
launched_for s w t = record s {
  pool = rows.with_launch s.pool w (kind_for s.plan t);
  ready = queue.with_taken s.ready t.action t.branch;
  last = update (set_launched t) s.last w;
}

pub record CanLaunch (s : State) (w : ℕ) (t : Attempt) : Type 0 where
  pub berth : w < length s.pool.seats
  pub last : w < length s.last
  pub room : length s.pool.lines < s.pool.room
  pub known : t.action < length s.ready

-- ---- the other choices

abbrev pub carried_reply : State → ℕ → Choice → Reply
carried_reply s w choice.Stop = reply.Stop
carried_reply s w (choice.Kill l y) = reply.Kill l y
carried_reply s w (choice.Gather m) = reply.Gather m.line m.number m.attempt.action m.attempt.branch
    m.attempt.number m.exit m.refused
carried_reply s w (choice.Cancel l n) = reply.Cancel l n
carried_reply s w (choice.Send l t) = sent_reply s l t
carried_reply s w (choice.Launch t) = launched_reply s t
carried_reply s w choice.Idle = reply.Idle

abbrev pub carried : State → ℕ → Choice → State
carried s w choice.Stop = s
carried s w (choice.Kill l y) = s
carried s w (choice.Gather m) = record s { matches = with_spent s.matches m.attempt }
carried s w (choice.Cancel l n) = record s {
  requests = asks.with_cancelled s.requests l n;
  cancels = marks.with_asked s.cancels l n;
}
carried s w (choice.Send l t) = sent s w l t (row_at s l).bound
carried s w (choice.Launch t) = launched_for s w t
carried s w choice.Idle = s

pub record CanCancel (s : State) (l : ℕ) (n : ℤ) : Type 0 where
  pub number : ℕ
  pub is : n ≡ pos number
  pub small : number < 2 ^ 31
  pub requests : l < length s.requests.lines
  pub cancels : l < length s.cancels.lines

abbrev pub CanCarry : State → ℕ → Choice → Type 0
CanCarry s w (choice.Cancel l n) = CanCancel s l n
CanCarry s w (choice.Send l t) = CanSend s w l t
CanCarry s w (choice.Launch t) = CanLaunch s w t
CanCarry s w _ = Unit {0}

-- ---- the end of an attempt

abbrev pub ends_yet : List Won → counts.Facts → Attempt → Bool
ends_yet race f t = not (is_some (wins.winner_of race t.action)
    || nat_le t.number (counts.ended_of f t.action t.branch))

abbrev pub counts_after : List Won → counts.Facts → Attempt → counts.Facts
counts_after race f t = if ends_yet race f t then counts.with_end f t.action t.branch else f

abbrev pub other_branch : Branch → Branch
other_branch Local = Remote
other_branch Remote = Local

abbrev pub uses_branch : Plan → ℕ → Branch → Bool
uses_branch p a b = is_some (option_and_then (λ x. group_of x b) (slice_get p.actions a))

-- the branch is dropped: where the other one is too, or isn't used, the action is settled
abbrev pub states_spent : Plan → counts.Facts → List ActionState → ℕ → Branch → List ActionState
states_spent p f states a b =
    if not (uses_branch p a (other_branch b)) || nat_le p.limit
    (counts.ended_of f a (other_branch b)) then queue.with_settled states a false else states

abbrev pub states_ended : Plan → counts.Facts → List ActionState → Attempt → List ActionState
states_ended p f states t =
    if nat_lt (counts.ended_of f t.action t.branch + 1) f.limit then queue.with_again states
    t.action t.branch
    else states_spent p (counts.with_end f t.action t.branch) states t.action t.branch

abbrev pub states_after : Plan → List Won → counts.Facts → List ActionState → Attempt
    → List ActionState
states_after p race f states t = if ends_yet race f t then states_ended p f states t else states

-- the attempt ends, unless it has ended, or its action has a grant
abbrev pub with_end : State → Attempt → State
with_end s t = record s {
  attempts = counts_after s.race s.attempts t;
  ready = states_after s.plan s.race s.attempts s.ready t;
}

pub record EndFits (race : List Won) (f : counts.Facts) (states : List ActionState)
    (t : Attempt) : Type 0 where
  pub race_known : t.action < length race
  pub counts_known : t.action < length f.ended
  pub states_known : t.action < length states
  pub limited : t.number ≤ f.limit

abbrev pub CanEnd : State → Attempt → Type 0
CanEnd s t = EndFits s.race s.attempts s.ready t

-- ---- Launched, Killed, Take

abbrev pub order_on : Option LaneState → Owed
order_on (Some x) = x.order
order_on None = order.Nothing

abbrev pub order_at : State → ℕ → Owed
order_at s lane = order_on (slice_get s.lanes lane)

abbrev pub launched_in : Owed → Option Attempt
launched_in (order.Launch l t) = Some t
launched_in _ = None

-- the attempt that the lane's newest work launched
abbrev pub launch_by : State → ℕ → Option Attempt
launch_by s lane = launched_in (order_at s lane)

abbrev pub CanEndOf : State → Option Attempt → Type 0
CanEndOf s (Some t) = CanEnd s t
CanEndOf s None = Unit {0}

abbrev pub end_of_some : State → Option Attempt → State
end_of_some s (Some t) = with_end s t
end_of_some s None = s

abbrev pub with_pool : State → rows.Facts → State
with_pool s f = record s { pool = f }

abbrev pub launched_with : State → ℕ → ℕ → Started → State
launched_with s lane l how =
    if entries.is_done how then with_pool s (rows.change s.pool l rows.set_started)
    else end_of_some (with_pool s (rows.change s.pool l rows.set_unbound)) (launch_by s lane)

abbrev pub killed_with : State → ℕ → State
killed_with s l = with_pool s (rows.change s.pool l rows.set_killed)

abbrev pub taken_on : Option LastLine → Bool
taken_on (Some x) = x.taken
taken_on None = false

abbrev pub takes_line : State → ℕ → Option ℕ → Option ℕ
takes_line s w (Some l) = if (row_at s l).started && not
    (taken_on (slice_get s.last w)) then Some l else None
takes_line s w None = None

abbrev pub takeable : State → ℕ → Option ℕ
takeable s w = takes_line s w (rows.last_of s.pool w)

abbrev pub take_reply : State → Option ℕ → Reply
take_reply s (Some l) = reply.Line l
take_reply s None = if is_over s then reply.Stop else reply.Idle

abbrev pub taken_with : State → ℕ → Option ℕ → State
taken_with s w (Some l) = record s { last = update set_taken s.last w }
taken_with s w None = s

-- ---- Claim, Committed

abbrev pub committed_with : State → ℕ → CommitEnd → State
committed_with s a how = record s {
  race = wins.with_commit s.race a (is_done how);
  ready = queue.with_settled s.ready a (is_done how);
}

abbrev pub is_of_action : Option Attempt → ℕ → Bool
is_of_action (Some t) a = t.action == a
is_of_action None a = false

abbrev pub unbound_line : rows.Facts → Option ℕ → rows.Facts
unbound_line f (Some l) = rows.change f l rows.set_unbound
unbound_line f None = f

abbrev pub unbound_at : rows.Facts → LastLine → ℕ → ℕ → rows.Facts
unbound_at f x w a = if is_of_action x.attempt a then unbound_line f (rows.last_of f w) else f

abbrev pub row_or_none : Option LastLine → LastLine
row_or_none (Some x) = x
row_or_none None = no_line

-- nothing is bound any longer to the last lines of the first n berths that were launched for the
-- action
abbrev pub unbound_for : rows.Facts → List LastLine → ℕ → ℕ → rows.Facts
unbound_for f last a zero = f
unbound_for f last a (suc n) = unbound_at (unbound_for f last a n)
    (row_or_none (slice_get last n)) n a

abbrev pub granted_with : State → Attempt → State
granted_with s t = record s {
  race = wins.with_claim s.race t.action t.branch;
  ready = queue.with_unwanted s.ready t.action;
  cancels = marks.with_unwanted s.cancels t.action;
  matches = with_won s.matches t.action;
  pool = unbound_for s.pool s.last t.action (length s.last);
}

abbrev pub is_won : State → Attempt → Bool
is_won s t = is_some (wins.winner_of s.race t.action)

abbrev pub refusal : State → Attempt → Reply
refusal s t = if nat_lt t.number s.plan.limit then reply.AgainLater else reply.Dropped

abbrev pub found_reply : State → Attempt → Found → Reply
found_reply s t (found.Files fs) = reply.Granted
found_reply s t (found.Exit n) = reply.Granted
found_reply s t _ = refusal s t

abbrev pub claim_reply_by : State → Attempt → Found → Reply
claim_reply_by s t f = if is_won s t then reply.Lost else found_reply s t f

abbrev pub settled_for : State → ℕ → State
settled_for s a = record s { ready = queue.with_settled s.ready a false }

abbrev pub found_with : State → Attempt → Found → State
found_with s t (found.Files fs) = granted_with s t
found_with s t (found.Exit n) = settled_for (granted_with s t) t.action
found_with s t _ = with_end s t

abbrev pub claimed_with : State → Attempt → Found → State
claimed_with s t f = if is_won s t then s else found_with s t f

pub record CanClaim (s : State) (t : Attempt) : Type 0 where
  pub ends : CanEnd s t
  pub cancels : t.action < length s.cancels.unwanted
  pub other : wins.winner_of s.race t.action ≢ Some t.branch
  pub seats : length s.last ≤ length s.pool.seats
  pub few : length s.last < 2 ^ 32
  pub lines : (v l : ℕ) → rows.last_of s.pool v ≡ Some l → l < length s.pool.lines
