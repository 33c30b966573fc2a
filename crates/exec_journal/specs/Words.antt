-- Lanes, lines, requests and grants, as functions of the journal so far, whose newest entry stands
-- first.
use Rattle.std.specs.Prelude.{ℕ, ◌/◌, ◌==◌, Bool, true, false, ◌&&◌, not, Option, Some, None, is_some, option_map, if◌then◌else◌, List, length, filter}
use Rattle.std.specs.Ordering.{int_eq}
use Rattle.run_plan.specs.declared.plan.Branch.{Branch}
use Rattle.exec_journal.specs.declared.attempt.Attempt.{Attempt}
use Rattle.exec_journal.specs.Entry.{Entry}
use Rattle.exec_journal.specs.declared.ends.Cause.{Cause}
use Rattle.exec_journal.specs.declared.ends.Cause.TheVariants as cause
use Rattle.exec_journal.specs.declared.call.Answer.{Answer}
use Rattle.exec_journal.specs.declared.call.Call.{Call}
use Rattle.exec_journal.specs.declared.call.Call.TheVariants as call
use Rattle.exec_journal.specs.declared.call.Found.{Found}
use Rattle.exec_journal.specs.declared.call.HowEnded.{HowEnded}
use Rattle.exec_journal.specs.declared.call.HowEnded.TheVariants as end
use Rattle.exec_journal.specs.declared.call.CommitEnd.{CommitEnd}
use Rattle.exec_journal.specs.declared.call.Written.{Written}
use Rattle.exec_journal.specs.declared.call.Written.TheVariants as write
use Rattle.exec_journal.specs.declared.reply.Reply.{Reply}
use Rattle.exec_journal.specs.declared.reply.Reply.TheVariants as reply
use Rattle.exec_journal.specs.declared.reply.Why.{Why}
use Rattle.exec_journal.specs.declared.reply.Why.TheVariants as why
use Rattle.exec_journal.specs.History.{ever, latest, first, each}
use Rattle.exec_journal.specs.Entries.{Request, same_attempt, is_branch_of, is_for, launch_in, send_in, consumed_in, matched_in, takes, orders_kill, is_stop, starts, fails, kills, ends, speaks, greets, is_halt, is_look, is_unwritten, committed_in, granted_in, send_of_entry}

-- ---- lanes

-- an entry of the lane that is neither a Look nor a Halt
abbrev pub work_at : ℕ → Entry → Option Entry
work_at lane e =
    if (e.lane == lane) && (not (is_look e.call) && not (is_halt e.call)) then Some e else None

-- the lane's newest such entry: what the lane owes hangs on it
unfoldable pub last_work : List Entry → ℕ → Option Entry
last_work j lane = latest (λ _ e. work_at lane e) j

-- the lane was told to stop
unfoldable pub stopped : List Entry → ℕ → Bool
stopped j lane = ever (λ _ e. (e.lane == lane) && is_stop e.reply) j

unfoldable pub has_halted : List Entry → ℕ → Bool
has_halted j lane = ever (λ _ e. (e.lane == lane) && is_halt e.call) j

-- some lane has halted
unfoldable pub halted : List Entry → Bool
halted j = ever (λ _ e. is_halt e.call) j

-- ---- lines

-- how many lines were ordered: the number of the next one
unfoldable pub line_count : List Entry → ℕ
line_count j = length (each (λ _ e. launch_in e.reply) j)

-- the line was launched with Done
unfoldable pub started : List Entry → ℕ → Bool
started j l = ever (λ _ e. starts l e.call) j

unfoldable pub failed : List Entry → ℕ → Bool
failed j l = ever (λ _ e. fails l e.call) j

unfoldable pub has_ended : List Entry → ℕ → Bool
has_ended j l = ever (λ _ e. ends l e.call) j

unfoldable pub was_killed : List Entry → ℕ → Bool
was_killed j l = ever (λ _ e. kills l e.call) j

unfoldable pub kill_ordered : List Entry → ℕ → Bool
kill_ordered j l = ever (λ _ e. orders_kill l e.reply) j

-- a tap lane was given the line
unfoldable pub was_taken : List Entry → ℕ → Bool
was_taken j l = ever (λ _ e. takes l e.reply) j

-- an Answer of the line stands there
unfoldable pub has_spoken : List Entry → ℕ → Bool
has_spoken j l = ever (λ _ e. speaks l e.call) j

-- an Answer of the line was a greeting
unfoldable pub has_greeted : List Entry → ℕ → Bool
has_greeted j l = ever (λ _ e. greets l e.call e.reply) j

abbrev pub launch_on : ℕ → ℕ → Option (ℕ × Attempt) → Option (ℕ × Attempt)
launch_on l lane (Some x) = if x.0 == l then Some (lane, x.1) else None
launch_on l lane None = None

abbrev pub launch_at : ℕ → Entry → Option (ℕ × Attempt)
launch_at l e = launch_on l e.lane (launch_in e.reply)

-- the lane and the attempt of the line's Launch
unfoldable pub launch_of : List Entry → ℕ → Option (ℕ × Attempt)
launch_of j l = latest (λ _ e. launch_at l e) j

abbrev pub line_at : ℕ → Entry → Option ℕ
line_at w e = if e.lane / 2 == w then option_map (λ x. x.0) (launch_in e.reply) else None

-- the newest line of a berth: its Launch was given to the berth's lane
unfoldable pub last_line : List Entry → ℕ → Option ℕ
last_line j w = latest (λ _ e. line_at w e) j

-- all lines of a berth, the newest first
unfoldable pub lines_of : List Entry → ℕ → List ℕ
lines_of j w = each (λ _ e. line_at w e) j

-- ---- requests

abbrev pub if_line : {X : Type 0} → ℕ → ℕ → Option X → Option X
if_line k l o = if k == l then o else None

abbrev pub sent_on : ℕ → Reply → Option Request
sent_on l (reply.Send k n a b t) = if_line k l (send_in (reply.Send k n a b t))
sent_on l _ = None

-- the requests that were sent on the line, the newest first
unfoldable pub sends : List Entry → ℕ → List Request
sends j l = each (λ _ e. sent_on l e.reply) j

unfoldable pub was_sent : List Entry → Attempt → Bool
was_sent j t = ever (λ _ e. is_for t (option_map (λ r. r.attempt) (send_in e.reply))) j

abbrev pub is_of_branch : ℕ → Branch → Option Request → Bool
is_of_branch a b (Some r) = is_branch_of a b r.attempt
is_of_branch a b None = false

-- some attempt of the branch was sent
unfoldable pub ever_sent : List Entry → ℕ → Branch → Bool
ever_sent j a b = ever (λ _ e. is_of_branch a b (send_in e.reply)) j

-- an Answer to the request was consumed: its reply was Matched or Late
unfoldable pub answered : List Entry → Attempt → Bool
answered j t = ever (λ _ e. is_for t (consumed_in e.reply)) j

-- the request that a Wrote of the lane is about now
abbrev pub order_of : List Entry → ℕ → Option Request
order_of j lane = send_of_entry (last_work j lane)

abbrev pub wrote_if : Attempt → Call → Option Request → Option Written
wrote_if t (call.Wrote l n how) (Some r) = if same_attempt r.attempt t then Some how else None
wrote_if t _ _ = None

abbrev pub wrote_at : Attempt → List Entry → Entry → Option Written
wrote_at t before e = wrote_if t e.call (order_of before e.lane)

-- the request's Wrote: the first Wrote of its lane after its Send
unfoldable pub wrote : List Entry → Attempt → Option Written
wrote j t = first (wrote_at t) j

abbrev pub says_unwritten : Option Written → Bool
says_unwritten (Some how) = is_unwritten how
says_unwritten None = false

abbrev pub says_done : Option Written → Bool
says_done (Some write.Done) = true
says_done _ = false

abbrev pub says_feed_fault : Option Written → Bool
says_feed_fault (Some write.FeedFault) = true
says_feed_fault _ = false

-- a request that was sent is pending where it isn't answered, its Wrote isn't RoomFault or
-- TooLarge, and its line hasn't Ended
unfoldable pub is_pending : List Entry → Request → Bool
is_pending j r = not (answered j r.attempt)
    && (not (says_unwritten (wrote j r.attempt)) && not (has_ended j r.line))

unfoldable pub pending : List Entry → ℕ → List Request
pending j l = filter (is_pending j) (sends j l)

abbrev pub cancels : Request → Reply → Bool
cancels r (reply.Cancel l n) = (l == r.line) && int_eq n r.number
cancels r _ = false

-- a Cancel was ordered for the request, after its own Send
unfoldable pub has_cancel : List Entry → Request → Bool
has_cancel j r = ever (λ before e. cancels r e.reply && was_sent before r.attempt) j

-- ---- the break of a line

abbrev pub end_cause : HowEnded → Cause
end_cause end.End = cause.Died
end_cause end.TapFault = cause.Tap
end_cause end.BadFrame = cause.Frame
end_cause end.Long = cause.Long

-- a Wrote breaks its line where the feed failed, or where it says that a request wasn't written
-- which was already answered
abbrev pub write_cause : List Entry → Written → Option Request → Option Cause
write_cause before write.FeedFault _ = Some cause.Feed
write_cause before write.Done _ = None
write_cause before how (Some r) = if answered before r.attempt then Some cause.Breach else None
write_cause before how None = None

abbrev pub break_by : List Entry → Option Request → ℕ → Call → Reply → Option Cause
break_by before order l (call.Wrote k n how) _ = if_line k l (write_cause before how order)
break_by before order l (call.Answer k a) (reply.Breach w) = if_line k l (Some cause.Breach)
break_by before order l (call.Ended k how) _ = if_line k l (Some (end_cause how))
break_by before order l _ _ = None

abbrev pub break_at : ℕ → List Entry → Entry → Option Cause
break_at l before e = break_by before (order_of before e.lane) l e.call e.reply

-- the cause for which the line broke: that of its first break
unfoldable pub line_cause : List Entry → ℕ → Option Cause
line_cause j l = first (break_at l) j

-- what a Kill says of that cause
abbrev pub why_of : Cause → Why
why_of cause.Breach = why.Breach
why_of cause.Feed = why.Feed
why_of _ = why.Ended

abbrev pub broke : List Entry → ℕ → Bool
broke j l = is_some (line_cause j l)

-- launched with Done, not broken and not killed
unfoldable pub live : List Entry → ℕ → Bool
live j l = started j l && (not (broke j l) && not (was_killed j l))

-- ---- grants and commits

abbrev pub of_action : ℕ → Option (Attempt × Found) → Option (Attempt × Found)
of_action a (Some x) = if x.0.action == a then Some x else None
of_action a None = None

-- the action's first Claim that was granted: the attempt, and what it had found
unfoldable pub grant_of : List Entry → ℕ → Option (Attempt × Found)
grant_of j a = first (λ _ e. of_action a (granted_in e.call e.reply)) j

unfoldable pub granted : List Entry → ℕ → Bool
granted j a = is_some (grant_of j a)

-- how the branch was committed, by its first Committed
unfoldable pub commit_of : List Entry → ℕ → Branch → Option CommitEnd
commit_of j a b = first (λ _ e. committed_in a b e.call) j

abbrev pub match_at : Attempt → Call → Reply → Option Answer
match_at t (call.Answer l x) r = if is_for t (matched_in r) then Some x else None
match_at t _ _ = None

-- the answer that was matched with the attempt, the first such
unfoldable pub match_of : List Entry → Attempt → Option Answer
match_of j t = first (λ _ e. match_at t e.call e.reply) j
