-- What a single entry of the journal is about.
use Rattle.std.specs.Prelude.{ℕ, ◌==◌, Bool, true, false, ◌&&◌, not, Option, Some, None, option_map, if◌then◌else◌, ℤ}
use Rattle.run_plan.specs.declared.plan.Branch.{Branch}
use Rattle.run_plan.specs.declared.plan.Branch.TheVariants.{Local, Remote}
use Rattle.exec_journal.specs.declared.attempt.Attempt.{Attempt}
use Rattle.exec_journal.specs.Entry.{Entry}
use Rattle.exec_journal.specs.declared.call.Call.{Call}
use Rattle.exec_journal.specs.declared.call.Call.TheVariants as call
use Rattle.exec_journal.specs.declared.call.Started.{Started}
use Rattle.exec_journal.specs.declared.call.Started.TheVariants as start
use Rattle.exec_journal.specs.declared.call.Written.{Written}
use Rattle.exec_journal.specs.declared.call.Written.TheVariants as write
use Rattle.exec_journal.specs.declared.call.Found.{Found}
use Rattle.exec_journal.specs.declared.call.CommitEnd.{CommitEnd}
use Rattle.exec_journal.specs.declared.reply.Reply.{Reply}
use Rattle.exec_journal.specs.declared.reply.Reply.TheVariants as reply

-- a request: an attempt that was sent, its line, and its number on that line
pub record Request : Type 0 where
  pub line : ℕ
  pub number : ℤ
  pub attempt : Attempt

abbrev pub same_branch : Branch → Branch → Bool
same_branch Local Local = true
same_branch Remote Remote = true
same_branch Local Remote = false
same_branch Remote Local = false

abbrev pub attempt_of : ℕ → Branch → ℕ → Attempt
attempt_of a b t = record { action = a; branch = b; number = t }

abbrev pub same_attempt : Attempt → Attempt → Bool
same_attempt s t =
    (s.action == t.action) && (same_branch s.branch t.branch && (s.number == t.number))

abbrev pub is_branch_of : ℕ → Branch → Attempt → Bool
is_branch_of a b t = (t.action == a) && same_branch t.branch b

-- it is there, and it is this attempt
abbrev pub is_for : Attempt → Option Attempt → Bool
is_for t (Some s) = same_attempt s t
is_for t None = false

-- ---- what a reply says

-- the line and the attempt that it orders to launch
abbrev pub launch_in : Reply → Option (ℕ × Attempt)
launch_in (reply.Launch l a b t) = Some (l, attempt_of a b t)
launch_in _ = None

-- the request that it orders to send
abbrev pub send_in : Reply → Option Request
send_in (reply.Send l n a b t) = Some (record { line = l; number = n; attempt = attempt_of a b t })
send_in _ = None

-- the attempt that it orders to gather
abbrev pub gather_in : Reply → Option Attempt
gather_in (reply.Gather l n a b t e r) = Some (attempt_of a b t)
gather_in _ = None

-- the attempt whose answer it consumes
abbrev pub consumed_in : Reply → Option Attempt
consumed_in (reply.Matched a b t) = Some (attempt_of a b t)
consumed_in (reply.Late a b t) = Some (attempt_of a b t)
consumed_in _ = None

-- the attempt whose answer it matches
abbrev pub matched_in : Reply → Option Attempt
matched_in (reply.Matched a b t) = Some (attempt_of a b t)
matched_in _ = None

-- it gives this line to the tap lane
abbrev pub takes : ℕ → Reply → Bool
takes l (reply.Line k) = k == l
takes l _ = false

-- it orders to kill this line
abbrev pub orders_kill : ℕ → Reply → Bool
orders_kill l (reply.Kill k y) = k == l
orders_kill l _ = false

abbrev pub is_stop : Reply → Bool
is_stop reply.Stop = true
is_stop _ = false

-- an entry with this reply is kept: it joins the journal
abbrev pub is_kept : Reply → Bool
is_kept reply.Idle = false
is_kept (reply.File b) = false
is_kept reply.NoFile = false
is_kept reply.NoMemory = false
is_kept reply.Astray = false
is_kept _ = true

-- ---- what a call says

abbrev pub is_done : Started → Bool
is_done start.Done = true
is_done start.RoomFault = false
is_done start.LaunchFault = false

-- it says that this line was launched with Done
abbrev pub starts : ℕ → Call → Bool
starts l (call.Launched k how) = is_done how && (k == l)
starts l _ = false

-- it says that this line failed to launch
abbrev pub fails : ℕ → Call → Bool
fails l (call.Launched k how) = not (is_done how) && (k == l)
fails l _ = false

abbrev pub kills : ℕ → Call → Bool
kills l (call.Killed k) = k == l
kills l _ = false

abbrev pub ends : ℕ → Call → Bool
ends l (call.Ended k how) = k == l
ends l _ = false

-- it is an Answer of this line
abbrev pub speaks : ℕ → Call → Bool
speaks l (call.Answer k x) = k == l
speaks l _ = false

abbrev pub is_halt : Call → Bool
is_halt call.Halt = true
is_halt _ = false

abbrev pub is_look : Call → Bool
is_look (call.Look w) = true
is_look _ = false

abbrev pub is_unwritten : Written → Bool
is_unwritten write.RoomFault = true
is_unwritten write.TooLarge = true
is_unwritten write.Done = false
is_unwritten write.FeedFault = false

-- how this branch was committed
abbrev pub committed_in : ℕ → Branch → Call → Option CommitEnd
committed_in a b (call.Committed c d how) = if (c == a) && same_branch d b then Some how else None
committed_in a b _ = None

-- ---- what a call and its reply say together

-- the attempt whose Claim was granted, and what it had found
abbrev pub granted_in : Call → Reply → Option (Attempt × Found)
granted_in (call.Claim a b t f) reply.Granted = Some (attempt_of a b t, f)
granted_in _ _ = None

-- the attempt whose Claim was answered AgainLater or Dropped, and what it had found
abbrev pub refused_in : Call → Reply → Option (Attempt × Found)
refused_in (call.Claim a b t f) reply.AgainLater = Some (attempt_of a b t, f)
refused_in (call.Claim a b t f) reply.Dropped = Some (attempt_of a b t, f)
refused_in _ _ = None

-- an Answer of this line was a greeting
abbrev pub greets : ℕ → Call → Reply → Bool
greets l (call.Answer k x) reply.Greeted = k == l
greets l _ _ = false

-- ---- what an entry orders, where there is one

abbrev pub send_of_entry : Option Entry → Option Request
send_of_entry (Some e) = send_in e.reply
send_of_entry None = None

abbrev pub launch_of_entry : Option Entry → Option Attempt
launch_of_entry (Some e) = option_map (λ p. p.1) (launch_in e.reply)
launch_of_entry None = None

abbrev pub gather_of_entry : Option Entry → Option Attempt
gather_of_entry (Some e) = gather_in e.reply
gather_of_entry None = None
