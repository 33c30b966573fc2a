-- Attempts: which is the latest of a branch, on which line it is, and with what cause it ends.
use Rattle.std.specs.Prelude.{ℕ, Bool, ◌&&◌, ◌||◌, not, Option, Some, None, is_some, unwrap_or, option_map, if◌then◌else◌, List, [], ◌∷◌}
use Rattle.run_plan.specs.declared.plan.Branch.{Branch}
use Rattle.run_plan.specs.declared.plan.Plan.{Plan}
use Rattle.exec_journal.specs.declared.attempt.Attempt.{Attempt}
use Rattle.exec_journal.specs.Entry.{Entry}
use Rattle.exec_journal.specs.declared.ends.Cause.{Cause}
use Rattle.exec_journal.specs.declared.ends.Cause.TheVariants as cause
use Rattle.exec_journal.specs.declared.call.Call.{Call}
use Rattle.exec_journal.specs.declared.call.Call.TheVariants as call
use Rattle.exec_journal.specs.declared.call.Found.{Found}
use Rattle.exec_journal.specs.declared.call.Found.TheVariants as found
use Rattle.exec_journal.specs.declared.call.Started.{Started}
use Rattle.exec_journal.specs.declared.call.Started.TheVariants as start
use Rattle.exec_journal.specs.declared.call.Written.{Written}
use Rattle.exec_journal.specs.declared.call.Written.TheVariants as write
use Rattle.exec_journal.specs.declared.reply.Reply.{Reply}
use Rattle.exec_journal.specs.History.{latest, first}
use Rattle.list_lemmas.specs.Options.{or_else}
use Rattle.exec_journal.specs.Entries.{Request, attempt_of, same_attempt, is_branch_of, is_for, launch_in, send_in, refused_in, send_of_entry, launch_of_entry}
use Rattle.exec_journal.specs.Words.{last_work, has_ended, answered, wrote, says_feed_fault, line_cause, granted}

-- ---- which attempts there are

-- the attempt that a reply launches or sends
abbrev pub begun_in : Reply → Option Attempt
begun_in x = or_else (option_map (λ p. p.1) (launch_in x)) (option_map (λ r. r.attempt) (send_in x))

abbrev pub number_if : ℕ → Branch → Option Attempt → Option ℕ
number_if a b (Some t) = if is_branch_of a b t then Some t.number else None
number_if a b None = None

-- the number of the branch's latest attempt, or 0
unfoldable pub attempt : List Entry → ℕ → Branch → ℕ
attempt j a b = unwrap_or (latest (λ _ e. number_if a b (begun_in e.reply)) j) 0

abbrev pub carrier_by : Attempt → Option (ℕ × Attempt) → Option Request → Option ℕ
carrier_by t (Some x) _ = if same_attempt x.1 t then Some x.0 else None
carrier_by t None (Some r) = if same_attempt r.attempt t then Some r.line else None
carrier_by t None None = None

abbrev pub carrier_in : Attempt → Reply → Option ℕ
carrier_in t x = carrier_by t (launch_in x) (send_in x)

-- the line on which the attempt was launched or sent, the last one
unfoldable pub line_of : List Entry → Attempt → Option ℕ
line_of j t = latest (λ _ e. carrier_in t e.reply) j

-- ---- how an attempt ends

abbrev pub start_cause : Started → Option Cause
start_cause start.Done = None
start_cause start.RoomFault = Some cause.Room
start_cause start.LaunchFault = Some cause.Launch

abbrev pub unwritten_cause : Written → Option Cause
unwritten_cause write.RoomFault = Some cause.Room
unwritten_cause write.TooLarge = Some cause.Large
unwritten_cause write.Done = None
unwritten_cause write.FeedFault = None

abbrev pub found_cause : Found → Option Cause
found_cause (found.Missing k) = Some (cause.Missing k)
found_cause found.RoomFault = Some cause.Room
found_cause found.Refused = Some cause.Refused
found_cause _ = None

abbrev pub refused_cause : Attempt → Option (Attempt × Found) → Option Cause
refused_cause t (Some x) = if same_attempt x.0 t then found_cause x.1 else None
refused_cause t None = None

abbrev pub fault_by : Attempt → Option Entry → Call → Reply → Option Cause
fault_by t last (call.Launched l how) _ =
    if is_for t (launch_of_entry last) then start_cause how else None
fault_by t last (call.Wrote l n how) _ = if is_for t
    (option_map (λ r. r.attempt) (send_of_entry last)) then unwritten_cause how else None
fault_by t last c r = refused_cause t (refused_in c r)

-- a fault of the attempt's own at this entry: its Launched has a fault, its Wrote is RoomFault or
-- TooLarge, or its Claim was answered AgainLater or Dropped
abbrev pub fault_at : Attempt → List Entry → Entry → Option Cause
fault_at t before e = fault_by t (last_work before e.lane) e.call e.reply

-- the first such fault
unfoldable pub fault_of : List Entry → Attempt → Option Cause
fault_of j t = first (fault_at t) j

-- its line has Ended, and its request is unanswered (so also where it is still bound), or has Wrote
-- FeedFault: then it is lost with the line, for the line's cause
abbrev pub lost_cause : List Entry → Attempt → Option ℕ → Option Cause
lost_cause j t (Some l) =
    if has_ended j l && (not (answered j t) || says_feed_fault (wrote j t)) then line_cause j l
    else None
lost_cause j t None = None

-- the cause, where a moment has come at which the attempt ends
abbrev pub over : List Entry → Attempt → Option Cause
over j t = or_else (fault_of j t) (lost_cause j t (line_of j t))

-- the cause with which the attempt ended, at the first such moment. It stays ended. Of an action
-- with a grant no attempt ends
unfoldable pub end_of : List Entry → Attempt → Option Cause
end_of [] t = None
end_of (e ∷ j) t = or_else (end_of j t) (if granted (e ∷ j) t.action then None else over (e ∷ j) t)

unfoldable pub ended : List Entry → Attempt → Bool
ended j t = is_some (end_of j t)

-- the branch has no attempt left: the one with the limit's number has ended
unfoldable pub dropped : Plan → List Entry → ℕ → Branch → Bool
dropped p j a b = ended j (attempt_of a b p.limit)
