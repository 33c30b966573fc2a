-- Without cancellation the worker of a losing request is killed.
use Rattle.std.specs.Prelude.{◌≡◌, refl, true, false, List, [], ◌∷◌, pos}
use Rattle.run_plan.specs.declared.plan.Branch.TheVariants.{Local, Remote}
use Rattle.run_plan.specs.declared.plan.Plan.{Plan}
use Rattle.exec_journal.specs.Entry.{Entry}
use Rattle.exec_journal.specs.declared.call.Call.TheVariants as call
use Rattle.exec_journal.specs.declared.call.CommitEnd.TheVariants as commit
use Rattle.exec_journal.specs.declared.call.Found.TheVariants as found
use Rattle.exec_journal.specs.declared.call.Started.TheVariants as start
use Rattle.exec_journal.specs.declared.call.Written.TheVariants as write
use Rattle.exec_journal.specs.declared.reply.Reply.TheVariants as reply
use Rattle.exec_journal.specs.declared.reply.Why.TheVariants as why
use Rattle.exec_journal.proofs.Parts.{entry, with_file, dynamic, plan_of, single, remote}
use Rattle.journal_laws.specs.IsLegal.{is_legal}
use Rattle.journal_laws.proofs.rows.Opened.{words, misses}

unfoldable pub plain_plan : Plan
unfolding plan_of dynamic single remote
plain_plan = plan_of (dynamic ∷ dynamic ∷ []) (single 1 ∷ remote ∷ []) 2

unfoldable pub killed_8 : List Entry
unfolding entry
killed_8 =
    entry 2 (call.Wrote 1 (pos 1) write.Done) reply.Noted
    ∷ entry 2 call.Ask (reply.Send 1 (pos 1) 0 Remote 1)
    ∷ entry 0 (call.Wrote 0 (pos 0) write.Done) reply.Noted
    ∷ entry 0 call.Ask (reply.Send 0 (pos 0) 0 Local 1)
    ∷ entry 2 (call.Launched 1 start.Done) reply.Noted
    ∷ entry 2 call.Ask (reply.Launch 1 0 Remote 1)
    ∷ entry 0 (call.Launched 0 start.Done) reply.Noted
    ∷ entry 0 call.Ask (reply.Launch 0 0 Local 1)
    ∷ []

unfoldable pub killed_14 : List Entry
unfolding entry killed_8
killed_14 =
    entry 2 (call.Committed 0 Remote commit.Done) reply.Noted
    ∷ entry 2 (call.Claim 0 Remote 1 (found.Files ((120 ∷ []) ∷ []))) reply.Granted
    ∷ entry 2 call.Ask (reply.Gather 1 (pos 1) 0 Remote 1 (pos 0) false)
    ∷ entry 3 (call.Answer 1 with_file) (reply.Matched 0 Remote 1)
    ∷ entry 3 call.Take (reply.Line 1)
    ∷ entry 1 call.Take (reply.Line 0)
    ∷ killed_8

unfoldable pub killed : List Entry
unfolding entry killed_8 killed_14
killed =
    entry 0 call.Ask (reply.Kill 0 why.Unwanted)
    ∷ killed_14

killed_legal : is_legal plain_plan killed ≡ true
unfolding plain_plan killed words
killed_legal = refl

-- a worker without cancellation gets no Cancel
cancelled_instead : misses plain_plan (entry 0 call.Ask (reply.Cancel 0 (pos 0)) ∷ killed_14) ≡ true
unfolding plain_plan killed_14 words
cancelled_instead = refl
