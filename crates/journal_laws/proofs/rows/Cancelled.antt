-- A losing request is cancelled, and its worker goes on.
use Rattle.std.specs.Prelude.{◌≡◌, refl, true, false, List, [], ◌∷◌, pos}
use Rattle.run_plan.specs.declared.plan.Branch.TheVariants.{Local, Remote}
use Rattle.run_plan.specs.declared.plan.Plan.{Plan}
use Rattle.exec_journal.specs.Entry.{Entry}
use Rattle.exec_journal.specs.declared.ends.Fate.TheVariants as fate
use Rattle.exec_journal.specs.declared.ends.Outcome.TheVariants as outcome
use Rattle.exec_journal.specs.declared.call.Call.TheVariants as call
use Rattle.exec_journal.specs.declared.call.CommitEnd.TheVariants as commit
use Rattle.exec_journal.specs.declared.call.Found.TheVariants as found
use Rattle.exec_journal.specs.declared.call.Started.TheVariants as start
use Rattle.exec_journal.specs.declared.call.Written.TheVariants as write
use Rattle.exec_journal.specs.declared.reply.Reply.TheVariants as reply
use Rattle.exec_journal.specs.declared.reply.BreachWhy.TheVariants as breach
use Rattle.exec_journal.specs.declared.reply.Why.TheVariants as why
use Rattle.exec_journal.specs.Outcomes as o
use Rattle.exec_journal.specs.Rules.{rule}
use Rattle.exec_journal.proofs.Parts.{entry, answer, with_file, said_cancelled, dynamic, plan_of, cancelling, remote}
use Rattle.journal_laws.specs.IsLegal.{is_legal}
use Rattle.journal_laws.proofs.rows.Opened.{words, misses}

unfoldable pub plan : Plan
unfolding plan_of dynamic cancelling remote
plan = plan_of (dynamic ∷ dynamic ∷ []) (cancelling ∷ remote ∷ []) 2

unfoldable pub cancelled_8 : List Entry
unfolding entry
cancelled_8 =
    entry 2 (call.Wrote 1 (pos 1) write.Done) reply.Noted
    ∷ entry 2 call.Ask (reply.Send 1 (pos 1) 0 Remote 1)
    ∷ entry 0 (call.Wrote 0 (pos 0) write.Done) reply.Noted
    ∷ entry 0 call.Ask (reply.Send 0 (pos 0) 0 Local 1)
    ∷ entry 2 (call.Launched 1 start.Done) reply.Noted
    ∷ entry 2 call.Ask (reply.Launch 1 0 Remote 1)
    ∷ entry 0 (call.Launched 0 start.Done) reply.Noted
    ∷ entry 0 call.Ask (reply.Launch 0 0 Local 1)
    ∷ []

unfoldable pub cancelled_14 : List Entry
unfolding entry cancelled_8
cancelled_14 =
    entry 2 (call.Committed 0 Remote commit.Done) reply.Noted
    ∷ entry 2 (call.Claim 0 Remote 1 (found.Files ((120 ∷ []) ∷ []))) reply.Granted
    ∷ entry 2 call.Ask (reply.Gather 1 (pos 1) 0 Remote 1 (pos 0) false)
    ∷ entry 3 (call.Answer 1 with_file) (reply.Matched 0 Remote 1)
    ∷ entry 3 call.Take (reply.Line 1)
    ∷ entry 1 call.Take (reply.Line 0)
    ∷ cancelled_8

unfoldable pub cancelled_16 : List Entry
unfolding entry cancelled_8 cancelled_14
cancelled_16 =
    entry 0 (call.Wrote 0 (pos 0) write.Done) reply.Noted
    ∷ entry 0 call.Ask (reply.Cancel 0 (pos 0))
    ∷ cancelled_14

unfoldable pub cancelled : List Entry
unfolding entry cancelled_8 cancelled_14 cancelled_16
cancelled =
    entry 0 call.Ask (reply.Send 0 (pos 0) 1 Local 1)
    ∷ entry 1 (call.Answer 0 answer) (reply.Late 0 Local 1)
    ∷ cancelled_16

cancelled_legal : is_legal plan cancelled ≡ true
unfolding plan cancelled words
cancelled_legal = refl

-- after the grant an answer comes late
late_matched : misses plan (entry 1 (call.Answer 0 answer) (reply.Matched 0 Local 1) ∷ cancelled_16) ≡ true
unfolding plan cancelled_16 words
late_matched = refl

-- a worker with cancellation is not killed
killed_too : misses plan (entry 0 call.Ask (reply.Kill 0 why.Unwanted) ∷ cancelled_14) ≡ true
unfolding plan cancelled_14 words
killed_too = refl

-- a request is cancelled once
cancelled_twice : misses plan (entry 0 call.Ask (reply.Cancel 0 (pos 0)) ∷ cancelled_16) ≡ true
unfolding plan cancelled_16 words
cancelled_twice = refl

-- an answer says cancelled only after a Cancel
not_cancelled : rule plan cancelled_14 1 (call.Answer 0 said_cancelled) ≡ reply.Breach breach.NotCancelled
unfolding plan cancelled_14 words
not_cancelled = refl

outcome_0 : o.outcome_of plan cancelled 0 ≡ outcome.Success Remote
unfolding plan cancelled words
outcome_0 = refl

local_fate : o.fate_of plan cancelled 0 Local ≡ fate.Lost
unfolding plan cancelled words
local_fate = refl

local_fate_1 : o.fate_of plan cancelled 1 Remote ≡ fate.Idle
unfolding plan cancelled words
local_fate_1 = refl
