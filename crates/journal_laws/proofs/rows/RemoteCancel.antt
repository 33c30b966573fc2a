-- An executor that has greeted is asked to cancel a losing request; one that hasn't is left to finish it.
use Rattle.std.specs.Prelude.{◌≡◌, refl, true, false, List, [], ◌∷◌, pos}
use Rattle.run_plan.specs.declared.plan.Branch.TheVariants.{Local, Remote}
use Rattle.run_plan.specs.declared.plan.Plan.{Plan}
use Rattle.exec_journal.specs.Entry.{Entry}
use Rattle.exec_journal.specs.declared.call.Call.TheVariants as call
use Rattle.exec_journal.specs.declared.call.CommitEnd.TheVariants as commit
use Rattle.exec_journal.specs.declared.call.Found.TheVariants as found
use Rattle.exec_journal.specs.declared.call.Started.TheVariants as start
use Rattle.exec_journal.specs.declared.call.Written.TheVariants as write
use Rattle.exec_journal.specs.declared.ends.Outcome.TheVariants as outcome
use Rattle.exec_journal.specs.declared.reply.Reply.TheVariants as reply
use Rattle.exec_journal.specs.declared.reply.StrayWhy.TheVariants as stray
use Rattle.exec_journal.specs.Outcomes as o
use Rattle.exec_journal.specs.Rules.{rule}
use Rattle.exec_journal.proofs.Parts.{entry, answer, greeting, cancelled_1, dynamic, plan_of, single, remote}
use Rattle.journal_laws.specs.IsLegal.{is_legal}
use Rattle.journal_laws.proofs.rows.Opened.{words}

unfoldable pub plan : Plan
unfolding plan_of dynamic single remote
plan = plan_of (dynamic ∷ dynamic ∷ []) (single 1 ∷ remote ∷ []) 2

unfoldable pub remote_10 : List Entry
unfolding entry
remote_10 =
    entry 3 call.Take (reply.Line 1)
    ∷ entry 1 call.Take (reply.Line 0)
    ∷ entry 2 (call.Wrote 1 (pos 1) write.Done) reply.Noted
    ∷ entry 2 call.Ask (reply.Send 1 (pos 1) 0 Remote 1)
    ∷ entry 0 (call.Wrote 0 (pos 0) write.Done) reply.Noted
    ∷ entry 0 call.Ask (reply.Send 0 (pos 0) 0 Local 1)
    ∷ entry 2 (call.Launched 1 start.Done) reply.Noted
    ∷ entry 2 call.Ask (reply.Launch 1 0 Remote 1)
    ∷ entry 0 (call.Launched 0 start.Done) reply.Noted
    ∷ entry 0 call.Ask (reply.Launch 0 0 Local 1)
    ∷ []

unfoldable pub greeted_11 : List Entry
unfolding entry remote_10
greeted_11 =
    entry 3 (call.Answer 1 greeting) reply.Greeted
    ∷ remote_10

unfoldable pub greeted_15 : List Entry
unfolding entry remote_10 greeted_11
greeted_15 =
    entry 0 (call.Committed 0 Local commit.Done) reply.Noted
    ∷ entry 0 (call.Claim 0 Local 1 (found.Files ((120 ∷ []) ∷ []))) reply.Granted
    ∷ entry 0 call.Ask (reply.Gather 0 (pos 0) 0 Local 1 (pos 0) false)
    ∷ entry 1 (call.Answer 0 answer) (reply.Matched 0 Local 1)
    ∷ greeted_11

unfoldable pub greeted_18 : List Entry
unfolding entry remote_10 greeted_11 greeted_15
greeted_18 =
    entry 3 (call.Answer 1 cancelled_1) (reply.Late 0 Remote 1)
    ∷ entry 2 (call.Wrote 1 (pos 1) write.Done) reply.Noted
    ∷ entry 2 call.Ask (reply.Cancel 1 (pos 1))
    ∷ greeted_15

unfoldable pub silent_14 : List Entry
unfolding entry remote_10
silent_14 =
    entry 0 (call.Committed 0 Local commit.Done) reply.Noted
    ∷ entry 0 (call.Claim 0 Local 1 (found.Files ((120 ∷ []) ∷ []))) reply.Granted
    ∷ entry 0 call.Ask (reply.Gather 0 (pos 0) 0 Local 1 (pos 0) false)
    ∷ entry 1 (call.Answer 0 answer) (reply.Matched 0 Local 1)
    ∷ remote_10

greeted_18_legal : is_legal plan greeted_18 ≡ true
unfolding plan greeted_18 words
greeted_18_legal = refl

silent_14_legal : is_legal plan silent_14 ≡ true
unfolding plan silent_14 words
silent_14_legal = refl

-- without the greeting the next request is sent
sends_on : rule plan silent_14 2 call.Ask ≡ reply.Send 1 (pos 2) 1 Remote 1
unfolding plan silent_14 words
sends_on = refl

-- a second greeting is an answer that nothing asked for
greets_once : rule plan greeted_11 3 (call.Answer 1 greeting) ≡ reply.Stray stray.Never
unfolding plan greeted_11 words
greets_once = refl

-- after it the next request goes out on the same line
sends_after : rule plan greeted_18 2 call.Ask ≡ reply.Send 1 (pos 2) 1 Remote 1
unfolding plan greeted_18 words
sends_after = refl

-- a local line greets nobody
no_greeting : rule plan greeted_11 1 (call.Answer 0 greeting) ≡ reply.Matched 0 Local 1
unfolding plan greeted_11 words
no_greeting = refl

-- the action is done by its local branch
outcome_0 : o.outcome_of plan greeted_18 0 ≡ outcome.Success Local
unfolding plan greeted_18 words
outcome_0 = refl
