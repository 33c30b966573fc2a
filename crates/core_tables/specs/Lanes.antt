-- What a lane owes, by its newest work, and which calls its script has.
use Rattle.std.specs.Prelude.{ℕ, ◌*◌, ◌%◌, ◌==◌, nat_lt, Bool, true, false, ◌&&◌, ◌||◌, not, Option, Some, None, if◌then◌else◌, List, slice_get, pos}
use Rattle.std.specs.Ordering.{int_eq}
use Rattle.run_plan.specs.declared.plan.Branch.{Branch}
use Rattle.run_plan.specs.declared.plan.Kind.{Kind}
use Rattle.run_plan.specs.declared.plan.Plan.{Plan}
use Rattle.exec_journal.specs.Entry.{Entry}
use Rattle.exec_journal.specs.declared.call.Call.{Call}
use Rattle.exec_journal.specs.declared.call.Call.TheVariants as call
use Rattle.exec_journal.specs.declared.call.Found.TheVariants as found
use Rattle.exec_journal.specs.declared.call.Wanted.{Wanted}
use Rattle.exec_journal.specs.declared.call.Wanted.TheVariants as look
use Rattle.exec_journal.specs.declared.reply.Reply.{Reply}
use Rattle.exec_journal.specs.declared.reply.Reply.TheVariants as reply
use Rattle.exec_journal.specs.Entries.{attempt_of, same_attempt, same_branch, is_halt, is_look, is_stop}
use Rattle.exec_journal.specs.Words.{last_work, stopped, has_halted}
use Rattle.run_plan.specs.Groups.{is_remote}
use Rattle.exec_journal.specs.Scripts.{may_find, outputs_of, makes, is_whole_or_fault}
use Rattle.list_lemmas.specs.Places.{update}
use Rattle.core_tables.specs.declared.lanes.LaneState.{LaneState}
use Rattle.core_tables.specs.declared.lanes.Owed.{Owed}
use Rattle.core_tables.specs.declared.lanes.Owed.TheVariants as order
use Rattle.core_tables.specs.declared.lanes.Said.{Said}
use Rattle.core_tables.specs.declared.lanes.Said.TheVariants as said

-- ---- what an entry leaves

abbrev pub order_after : Reply → Owed
order_after (reply.Launch l a b t) = order.Launch l (attempt_of a b t)
order_after (reply.Send l n a b t) = order.Send l n (attempt_of a b t)
order_after (reply.Cancel l n) = order.Cancel l n
order_after (reply.Gather l n a b t e r) = order.Gather l n (attempt_of a b t) e r
order_after (reply.Kill l y) = order.Kill l
order_after (reply.Line l) = order.Line l
order_after reply.Stop = order.Stop
order_after _ = order.Nothing

abbrev pub said_after : Call → Reply → Said
said_after (call.Claim a b t (found.Files f)) reply.Granted = said.Won a b
said_after (call.Answer l x) _ = said.Answer l
said_after _ _ = said.Nothing

abbrev pub no_work : LaneState
no_work = record { order = order.Nothing; said = said.Nothing; stopped = false; halted = false }

abbrev pub is_work : Call → Bool
is_work c = not (is_look c) && not (is_halt c)

abbrev pub worked : Call → Reply → LaneState → LaneState
worked c r s = record {
  order = if is_work c then order_after r else s.order;
  said = if is_work c then said_after c r else s.said;
  stopped = is_stop r || s.stopped;
  halted = is_halt c || s.halted;
}

abbrev pub noted : List LaneState → ℕ → Call → Reply → List LaneState
noted lanes lane c r = update (worked c r) lanes lane

-- ---- which calls it allows

abbrev pub is_won : Said → Bool
is_won (said.Won a b) = true
is_won _ = false

abbrev pub is_answer : Said → Bool
is_answer (said.Answer l) = true
is_answer _ = false

abbrev pub may_ask_by : Owed → Said → Bool
may_ask_by order.Nothing s = not (is_won s)
may_ask_by (order.Line l) s = true
may_ask_by _ s = false

abbrev pub may_take_by : Owed → Said → Bool
may_take_by (order.Line l) s = false
may_take_by order.Stop s = false
may_take_by _ s = not (is_answer s)

abbrev pub hears_said : ℕ → Said → Bool
hears_said l (said.Answer k) = k == l
hears_said l _ = false

abbrev pub hears_by : ℕ → Owed → Said → Bool
hears_by l (order.Line k) s = k == l
hears_by l _ s = hears_said l s

abbrev pub owes_this_commit : ℕ → Branch → Said → Bool
owes_this_commit a b (said.Won c d) = (c == a) && same_branch d b
owes_this_commit a b _ = false

abbrev pub owes_commit_by : Call → Said → Bool
owes_commit_by (call.Committed a b how) s = owes_this_commit a b s
owes_commit_by _ s = false

abbrev pub may_look_by : Plan → Wanted → Owed → Bool
may_look_by p (look.Made c o) (order.Send l n t) = makes p t.action c o
may_look_by p (look.Answered k m o) (order.Gather l n t exit refused) =
    ((k == l) && int_eq m n) && (int_eq exit (pos 0) &&
    (not refused && nat_lt o (outputs_of p t.action)))
may_look_by p _ _ = false

abbrev pub is_owed_by : Plan → Kind → Call → Owed → Bool
is_owed_by p k (call.Launched l how) (order.Launch m t) = m == l
is_owed_by p k (call.Wrote l n how) (order.Send m o t) = (m == l) && int_eq o n
is_owed_by p k (call.Wrote l n how) (order.Cancel m o) =
    (m == l) && (int_eq o n && is_whole_or_fault how)
is_owed_by p k (call.Claim a b t f) (order.Gather l n u e r) =
    same_attempt (attempt_of a b t) u && may_find (outputs_of p a) (is_remote k) e r f
is_owed_by p k (call.Killed l) (order.Kill m) = m == l
is_owed_by p k (call.Look w) o = may_look_by p w o
is_owed_by p k _ _ = false

abbrev pub allowed_by : Plan → Kind → Bool → Owed → Said → Call → Bool
allowed_by p k proxy o s call.Ask = proxy && may_ask_by o s
allowed_by p k proxy o s call.Take = not proxy && may_take_by o s
allowed_by p k proxy o s (call.Answer l x) = not proxy && hears_by l o s
allowed_by p k proxy o s (call.Ended l how) = not proxy && hears_by l o s
allowed_by p k proxy o s call.Halt = true
allowed_by p k proxy o s c = proxy && (is_owed_by p k c o || owes_commit_by c s)

abbrev pub may_by : Plan → Kind → Bool → LaneState → Call → Bool
may_by p k proxy s c = not s.stopped && (if s.halted then owes_commit_by c s.said else allowed_by p
    k proxy s.order s.said c)

abbrev pub may_some : Plan → Kind → Bool → Option LaneState → Call → Bool
may_some p k proxy (Some s) c = may_by p k proxy s c
may_some p k proxy None c = false

abbrev pub allows_by : Plan → Kind → List LaneState → ℕ → Call → Bool
allows_by p k lanes lane c = may_some p k (lane % 2 == 0) (slice_get lanes lane) c

-- ---- by the journal

abbrev pub order_of_work : Option Entry → Owed
order_of_work (Some e) = order_after e.reply
order_of_work None = order.Nothing

abbrev pub said_of_work : Option Entry → Said
said_of_work (Some e) = said_after e.call e.reply
said_of_work None = said.Nothing

abbrev pub state_by : Option Entry → Bool → Bool → LaneState
state_by last stop halt = record {
  order = order_of_work last;
  said = said_of_work last;
  stopped = stop;
  halted = halt;
}

-- of a lane of so many berths
unfoldable pub lane_in : ℕ → List Entry → ℕ → Option LaneState
lane_in seats j lane = if nat_lt lane (2 * seats) then Some
    (state_by (last_work j lane) (stopped j lane) (has_halted j lane)) else None
