-- A singleplex worker answers twice: its line broke, and yet the answer that came first is gathered, claimed and committed.
use Rattle.std.specs.Prelude.{◌≡◌, refl, true, false, List, [], ◌∷◌, pos}
use Rattle.run_plan.specs.declared.plan.Branch.TheVariants.{Local}
use Rattle.run_plan.specs.declared.plan.Plan.{Plan}
use Rattle.exec_journal.specs.Entry.{Entry}
use Rattle.exec_journal.specs.declared.ends.Fate.TheVariants as fate
use Rattle.exec_journal.specs.declared.ends.Outcome.TheVariants as outcome
use Rattle.exec_journal.specs.declared.call.Call.TheVariants as call
use Rattle.exec_journal.specs.declared.call.CommitEnd.TheVariants as commit
use Rattle.exec_journal.specs.declared.call.Found.TheVariants as found
use Rattle.exec_journal.specs.declared.call.HowEnded.TheVariants as end
use Rattle.exec_journal.specs.declared.call.Started.TheVariants as start
use Rattle.exec_journal.specs.declared.call.Written.TheVariants as write
use Rattle.exec_journal.specs.declared.reply.Reply.TheVariants as reply
use Rattle.exec_journal.specs.declared.reply.BreachWhy.TheVariants as breach
use Rattle.exec_journal.specs.declared.reply.Why.TheVariants as why
use Rattle.exec_journal.specs.Outcomes as o
use Rattle.exec_journal.proofs.Parts.{entry, answer, worker, plan_of, single}
use Rattle.journal_laws.specs.IsLegal.{is_legal}
use Rattle.journal_laws.proofs.rows.Opened.{words, misses}

unfoldable pub plan : Plan
unfolding plan_of worker single
plan = plan_of (worker ∷ worker ∷ []) (single 1 ∷ []) 2

unfoldable pub twice_6 : List Entry
unfolding entry
twice_6 =
    entry 1 (call.Answer 0 answer) (reply.Matched 0 Local 1)
    ∷ entry 0 (call.Wrote 0 (pos 0) write.Done) reply.Noted
    ∷ entry 0 call.Ask (reply.Send 0 (pos 0) 0 Local 1)
    ∷ entry 1 call.Take (reply.Line 0)
    ∷ entry 0 (call.Launched 0 start.Done) reply.Noted
    ∷ entry 0 call.Ask (reply.Launch 0 0 Local 1)
    ∷ []

unfoldable pub twice_7 : List Entry
unfolding entry twice_6
twice_7 =
    entry 1 (call.Answer 0 answer) (reply.Breach breach.Unasked)
    ∷ twice_6

unfoldable pub twice_10 : List Entry
unfolding entry twice_6 twice_7
twice_10 =
    entry 1 (call.Ended 0 end.End) reply.Noted
    ∷ entry 0 (call.Killed 0) reply.Noted
    ∷ entry 0 call.Ask (reply.Kill 0 why.Breach)
    ∷ twice_7

unfoldable pub twice : List Entry
unfolding entry twice_6 twice_7 twice_10
twice =
    entry 0 call.Ask (reply.Launch 1 1 Local 1)
    ∷ entry 0 (call.Committed 0 Local commit.Done) reply.Noted
    ∷ entry 0 (call.Claim 0 Local 1 (found.Files ((120 ∷ []) ∷ []))) reply.Granted
    ∷ entry 0 call.Ask (reply.Gather 0 (pos 0) 0 Local 1 (pos 0) false)
    ∷ twice_10

twice_legal : is_legal plan twice ≡ true
unfolding plan twice words
twice_legal = refl

-- an answer is not consumed twice
matched_twice : misses plan (entry 1 (call.Answer 0 answer) (reply.Matched 0 Local 1) ∷ twice_6) ≡ true
unfolding plan twice_6 words
matched_twice = refl

-- the Kill names the first break
wrong_reason : misses plan (entry 0 call.Ask (reply.Kill 0 why.Ended) ∷ twice_7) ≡ true
unfolding plan twice_7 words
wrong_reason = refl

-- nothing is launched into a room whose outputs are still to be gathered
launch_too_early : misses plan (entry 0 call.Ask (reply.Launch 1 1 Local 1) ∷ twice_10) ≡ true
unfolding plan twice_10 words
launch_too_early = refl

outcome_0 : o.outcome_of plan twice 0 ≡ outcome.Success Local
unfolding plan twice words
outcome_0 = refl

fate_0 : o.fate_of plan twice 0 Local ≡ fate.Won
unfolding plan twice words
fate_0 = refl

outcome_1 : o.outcome_of plan twice 1 ≡ outcome.Unsettled
unfolding plan twice words
outcome_1 = refl
