-- A line dies: with what is bound to it, what is pending there, and what was answered after its
-- feed had failed.
use Rattle.std.specs.Prelude.{◌≡◌, refl, true, false, Some, None, List, [], ◌∷◌, pos}
use Rattle.run_plan.specs.declared.plan.Branch.TheVariants.{Local, Remote}
use Rattle.run_plan.specs.declared.plan.Plan.{Plan}
use Rattle.exec_journal.specs.Entry.{Entry}
use Rattle.exec_journal.specs.declared.call.Call.TheVariants as call
use Rattle.exec_journal.specs.declared.call.Found.TheVariants as found
use Rattle.exec_journal.specs.declared.call.HowEnded.TheVariants as end
use Rattle.exec_journal.specs.declared.call.Started.TheVariants as start
use Rattle.exec_journal.specs.declared.call.Written.TheVariants as write
use Rattle.exec_journal.specs.declared.reply.Reply.TheVariants as reply
use Rattle.exec_journal.specs.Entries.{Request, attempt_of}
use Rattle.exec_journal.specs.Words.{answered, granted, has_ended, is_pending, order_of, was_sent}
use Rattle.exec_journal.specs.Attempts.{ended, line_of}
use Rattle.exec_journal.specs.Settled.{bound}
use Rattle.exec_journal.proofs.Parts.{entry, numbered, worker, plan_of, multi, with_file}
use Rattle.journal_laws.specs.IsLegal.{is_legal}
use Rattle.journal_laws.proofs.rows.BothAnswer as both
use Rattle.journal_laws.proofs.rows.Opened.{words}
use Rattle.call_laws.specs.Moments.{fed_on, lost_with}

-- two actions on one Multi berth
unfoldable pub plan : Plan
unfolding plan_of worker multi
plan = plan_of (worker ∷ worker ∷ []) (multi ∷ []) 2

-- ---- a worker dies before its first request

unfoldable pub early_3 : List Entry
unfolding entry
early_3 =
    entry 1 call.Take (reply.Line 0)
    ∷ entry 0 (call.Launched 0 start.Done) reply.Noted
    ∷ entry 0 call.Ask (reply.Launch 0 0 Local 1)
    ∷ []

unfoldable pub early : List Entry
unfolding entry early_3
early = entry 1 (call.Ended 0 end.End) reply.Noted ∷ early_3

early_legal : is_legal plan early ≡ true
unfolding plan early words
early_legal = refl

-- the branch was begun and never sent, and is bound to the line
early_carried : line_of early_3 (attempt_of 0 Local 1) ≡ Some 0
unfolding plan early_3 words
early_carried = refl

early_unsent : was_sent early_3 (attempt_of 0 Local 1) ≡ false
unfolding plan early_3 words
early_unsent = refl

early_free : granted early_3 0 ≡ false
unfolding plan early_3 words
early_free = refl

early_bound : bound plan early_3 0 ≡ Some (attempt_of 0 Local 1)
unfolding plan early_3 words
early_bound = refl

-- it alone ends with the line
early_lost : lost_with plan early_3 0 ≡ attempt_of 0 Local 1 ∷ []
unfolding plan early_3 words
early_lost = refl

early_ends : ended early (attempt_of 0 Local 1) ≡ true
unfolding plan early words
early_ends = refl

-- ---- a feed fails after its answer, and then the worker dies

-- the second answer comes before its Wrote
unfoldable pub feed_7 : List Entry
unfolding entry early_3
feed_7 =
    entry 1 (call.Answer 0 (numbered 2)) (reply.Matched 1 Local 1)
    ∷ entry 0 call.Ask (reply.Send 0 (pos 2) 1 Local 1)
    ∷ entry 0 (call.Wrote 0 (pos 1) write.Done) reply.Noted
    ∷ entry 0 call.Ask (reply.Send 0 (pos 1) 0 Local 1)
    ∷ early_3

unfoldable pub feed_8 : List Entry
unfolding entry early_3 feed_7
feed_8 = entry 0 (call.Wrote 0 (pos 2) write.FeedFault) reply.Noted ∷ feed_7

unfoldable pub feed : List Entry
unfolding entry early_3 feed_7 feed_8
feed = entry 1 (call.Ended 0 end.TapFault) reply.Noted ∷ feed_8

feed_legal : is_legal plan feed ≡ true
unfolding plan feed words
feed_legal = refl

unfoldable second : Request
second = record { line = 0; number = pos 2; attempt = attempt_of 1 Local 1 }

-- the request of the Wrote isn't pending, on a line that runs: it was answered
feed_order : order_of feed_7 0 ≡ Some second
unfolding plan feed_7 second words
feed_order = refl

feed_closed : is_pending feed_7 second ≡ false
unfolding plan feed_7 second words
feed_closed = refl

feed_running : has_ended feed_7 0 ≡ false
unfolding plan feed_7 words
feed_running = refl

feed_answered : answered feed_7 (attempt_of 1 Local 1) ≡ true
unfolding plan feed_7 words
feed_answered = refl

-- it doesn't end with its Wrote
feed_goes_on : ended feed_8 (attempt_of 1 Local 1) ≡ false
unfolding plan feed_8 words
feed_goes_on = refl

feed_fed : fed_on feed_8 0 ≡ Some (attempt_of 1 Local 1)
unfolding plan feed_8 words
feed_fed = refl

-- but with the line, beside the one that is pending
feed_lost : lost_with plan feed_8 0 ≡ attempt_of 1 Local 1 ∷ attempt_of 0 Local 1 ∷ []
unfolding plan feed_8 words
feed_lost = refl

feed_ends : ended feed (attempt_of 1 Local 1) ≡ true
unfolding plan feed words
feed_ends = refl

feed_ends_both : ended feed (attempt_of 0 Local 1) ≡ true
unfolding plan feed words
feed_ends_both = refl

-- ---- a feed fails before any answer: the request is pending too, and stands in the list once

unfoldable cut_5 : List Entry
unfolding entry early_3
cut_5 =
    entry 0 (call.Wrote 0 (pos 1) write.FeedFault) reply.Noted
    ∷ entry 0 call.Ask (reply.Send 0 (pos 1) 0 Local 1)
    ∷ early_3

cut_legal : is_legal plan cut_5 ≡ true
unfolding plan cut_5 early_3 words
cut_legal = refl

cut_fed : fed_on cut_5 0 ≡ Some (attempt_of 0 Local 1)
unfolding plan cut_5 early_3 words
cut_fed = refl

cut_lost : lost_with plan cut_5 0 ≡ attempt_of 0 Local 1 ∷ []
unfolding plan cut_5 early_3 words
cut_lost = refl

-- ---- a worker dies whose action another branch has won: nothing is bound to its line any more

unfoldable won_11 : List Entry
unfolding entry
won_11 =
    entry 1 call.Take (reply.Line 0)
    ∷ entry 2 (call.Claim 0 Remote 1 (found.Files ((120 ∷ []) ∷ []))) reply.Granted
    ∷ entry 2 call.Ask (reply.Gather 1 (pos 1) 0 Remote 1 (pos 0) false)
    ∷ entry 3 (call.Answer 1 with_file) (reply.Matched 0 Remote 1)
    ∷ entry 3 call.Take (reply.Line 1)
    ∷ entry 2 (call.Wrote 1 (pos 1) write.Done) reply.Noted
    ∷ entry 2 call.Ask (reply.Send 1 (pos 1) 0 Remote 1)
    ∷ entry 2 (call.Launched 1 start.Done) reply.Noted
    ∷ entry 2 call.Ask (reply.Launch 1 0 Remote 1)
    ∷ entry 0 (call.Launched 0 start.Done) reply.Noted
    ∷ entry 0 call.Ask (reply.Launch 0 0 Local 1)
    ∷ []

unfoldable won : List Entry
unfolding entry won_11
won = entry 1 (call.Ended 0 end.End) reply.Noted ∷ won_11

won_legal : is_legal both.plan won ≡ true
unfolding both.plan won won_11 words
won_legal = refl

won_unsent : was_sent won_11 (attempt_of 0 Local 1) ≡ false
unfolding won_11 words
won_unsent = refl

won_unbound : bound both.plan won_11 0 ≡ None
unfolding both.plan won_11 words
won_unbound = refl

won_goes_on : ended won (attempt_of 0 Local 1) ≡ false
unfolding won won_11 words
won_goes_on = refl
