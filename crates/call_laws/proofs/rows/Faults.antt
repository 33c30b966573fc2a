-- Faults, each with the one attempt that ends: of a launch, of a write, of a feed after the line's
-- end, and of a claim.
use Rattle.std.specs.Prelude.{◌≡◌, refl, true, false, Some, None, List, [], ◌∷◌, pos}
use Rattle.run_plan.specs.declared.plan.Branch.TheVariants.{Local, Remote}
use Rattle.run_plan.specs.declared.plan.Plan.{Plan}
use Rattle.exec_journal.specs.Entry.{Entry}
use Rattle.exec_journal.specs.declared.ends.Cause.TheVariants as cause
use Rattle.exec_journal.specs.declared.call.Call.TheVariants as call
use Rattle.exec_journal.specs.declared.call.CommitEnd.TheVariants as commit
use Rattle.exec_journal.specs.declared.call.Found.TheVariants as found
use Rattle.exec_journal.specs.declared.call.HowEnded.TheVariants as end
use Rattle.exec_journal.specs.declared.call.Started.TheVariants as start
use Rattle.exec_journal.specs.declared.call.Written.TheVariants as write
use Rattle.exec_journal.specs.declared.reply.Reply.TheVariants as reply
use Rattle.exec_journal.specs.Entries.{Request, attempt_of}
use Rattle.exec_journal.specs.Words.{commit_of, failed, has_ended, is_pending, last_work, launch_of, order_of}
use Rattle.exec_journal.specs.Attempts.{ended, fault_at}
use Rattle.exec_journal.specs.Rules.{rule}
use Rattle.exec_journal.specs.Scripts.{script}
use Rattle.exec_journal.specs.Settled.{bound}
use Rattle.exec_journal.proofs.Parts.{entry, answer, worker, plan_of, single}
use Rattle.journal_laws.specs.IsLegal.{is_legal}
use Rattle.journal_laws.proofs.rows.AnswersTwice as twice
use Rattle.journal_laws.proofs.rows.BothAnswer as both
use Rattle.journal_laws.proofs.rows.Opened.{words}

-- one action on one Single berth
unfoldable pub plan : Plan
unfolding plan_of worker single
plan = plan_of (worker ∷ []) (single 1 ∷ []) 2

unfoldable pub launch_1 : List Entry
unfolding entry
launch_1 = entry 0 call.Ask (reply.Launch 0 0 Local 1) ∷ []

-- ---- a launch fails

unfoldable unlaunched : List Entry
unfolding entry launch_1
unlaunched = entry 0 (call.Launched 0 start.LaunchFault) reply.Noted ∷ launch_1

unlaunched_legal : is_legal plan unlaunched ≡ true
unfolding plan unlaunched words
unlaunched_legal = refl

unlaunched_order : launch_of launch_1 0 ≡ Some (0, attempt_of 0 Local 1)
unfolding launch_1 words
unlaunched_order = refl

-- what is bound to that line has this fault
unlaunched_bound : bound plan launch_1 0 ≡ Some (attempt_of 0 Local 1)
unfolding plan launch_1 words
unlaunched_bound = refl

unlaunched_fault : fault_at (attempt_of 0 Local 1) launch_1
    (entry 0 (call.Launched 0 start.LaunchFault) reply.Noted) ≡ Some cause.Launch
unfolding launch_1 words
unlaunched_fault = refl

unlaunched_ends : ended unlaunched (attempt_of 0 Local 1) ≡ true
unfolding unlaunched words
unlaunched_ends = refl

-- until then the launch is owed, and nothing was reported
unlaunched_owed : last_work launch_1 0 ≡ Some (entry 0 call.Ask (reply.Launch 0 0 Local 1))
unfolding launch_1 words
unlaunched_owed = refl

unlaunched_yet : failed launch_1 0 ≡ false
unfolding launch_1 words
unlaunched_yet = refl

-- ---- a request isn't written

unfoldable pub sent_3 : List Entry
unfolding entry launch_1
sent_3 =
    entry 0 call.Ask (reply.Send 0 (pos 0) 0 Local 1)
    ∷ entry 0 (call.Launched 0 start.Done) reply.Noted
    ∷ launch_1

unfoldable unwritten : List Entry
unfolding entry launch_1 sent_3
unwritten = entry 0 (call.Wrote 0 (pos 0) write.TooLarge) reply.Noted ∷ sent_3

unwritten_legal : is_legal plan unwritten ≡ true
unfolding plan unwritten words
unwritten_legal = refl

unfoldable only : Request
only = record { line = 0; number = pos 0; attempt = attempt_of 0 Local 1 }

unwritten_order : order_of sent_3 0 ≡ Some only
unfolding sent_3 only words
unwritten_order = refl

unwritten_pending : is_pending sent_3 only ≡ true
unfolding sent_3 only words
unwritten_pending = refl

unwritten_ends : ended unwritten (attempt_of 0 Local 1) ≡ true
unfolding unwritten words
unwritten_ends = refl

-- ---- a feed fails after the answer and the line's end

unfoldable fed_6 : List Entry
unfolding entry launch_1 sent_3
fed_6 =
    entry 1 (call.Ended 0 end.End) reply.Noted
    ∷ entry 1 (call.Answer 0 answer) (reply.Matched 0 Local 1)
    ∷ entry 1 call.Take (reply.Line 0)
    ∷ sent_3

unfoldable fed : List Entry
unfolding entry launch_1 sent_3 fed_6
fed = entry 0 (call.Wrote 0 (pos 0) write.FeedFault) reply.Noted ∷ fed_6

fed_legal : is_legal plan fed ≡ true
unfolding plan fed words
fed_legal = refl

fed_order : order_of fed_6 0 ≡ Some only
unfolding fed_6 only words
fed_order = refl

fed_over : has_ended fed_6 0 ≡ true
unfolding fed_6 words
fed_over = refl

-- it was answered, so it didn't end with its line
fed_going : ended fed_6 (attempt_of 0 Local 1) ≡ false
unfolding fed_6 words
fed_going = refl

fed_ends : ended fed (attempt_of 0 Local 1) ≡ true
unfolding fed words
fed_ends = refl

-- ---- an output is missing

unfoldable gathered_11 : List Entry
unfolding entry twice.twice_10
gathered_11 = entry 0 call.Ask (reply.Gather 0 (pos 0) 0 Local 1 (pos 0) false) ∷ twice.twice_10

unfoldable missing : List Entry
unfolding entry gathered_11
missing = entry 0 (call.Claim 0 Local 1 (found.Missing 0)) reply.AgainLater ∷ gathered_11

missing_legal : is_legal twice.plan missing ≡ true
unfolding twice.plan twice.twice_6 twice.twice_7 twice.twice_10 gathered_11 missing words
missing_legal = refl

missing_ends : ended missing (attempt_of 0 Local 1) ≡ true
unfolding twice.twice_6 twice.twice_7 twice.twice_10 gathered_11 missing words
missing_ends = refl

-- a Claim that is lost ends nothing
lost_rule : rule both.plan both.both_15 0 (call.Claim 0 Local 1 found.RoomFault) ≡ reply.Lost
unfolding both.plan both.both_8 both.both_14 both.both_15 words
lost_rule = refl

lost_scripted : script both.plan both.both_15 0 (call.Claim 0 Local 1 found.RoomFault) ≡ true
unfolding both.plan both.both_8 both.both_14 both.both_15 words
lost_scripted = refl

lost_goes_on : ended (entry 0 (call.Claim 0 Local 1 found.RoomFault) reply.Lost ∷ both.both_15)
    (attempt_of 0 Local 1) ≡ false
unfolding both.both_8 both.both_14 both.both_15 words
lost_goes_on = refl

-- ---- files that were granted are owed their Committed, and then have it

commit_owed : last_work both.both_15 2 ≡ Some (entry 2
    (call.Claim 0 Remote 1 (found.Files ((120 ∷ []) ∷ []))) reply.Granted)
unfolding both.both_8 both.both_14 both.both_15 words
commit_owed = refl

commit_missing : commit_of both.both_15 0 Remote ≡ None
unfolding both.both_8 both.both_14 both.both_15 words
commit_missing = refl

commit_done : commit_of both.both 0 Remote ≡ Some commit.Done
unfolding both.both_8 both.both_14 both.both_15 both.both words
commit_done = refl
