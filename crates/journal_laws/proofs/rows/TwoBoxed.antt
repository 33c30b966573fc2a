-- Two requests on a line with a part of the room for each: each has its number, and each is gathered by it.
use Rattle.std.specs.Prelude.{◌≡◌, refl, true, false, List, [], ◌∷◌, pos}
use Rattle.run_plan.specs.declared.plan.Branch.TheVariants.{Local}
use Rattle.run_plan.specs.declared.plan.Group.{Group}
use Rattle.run_plan.specs.declared.plan.Kind.TheVariants as kind
use Rattle.run_plan.specs.declared.plan.Plan.{Plan}
use Rattle.exec_journal.specs.Entry.{Entry}
use Rattle.exec_journal.specs.declared.call.Call.TheVariants as call
use Rattle.exec_journal.specs.declared.call.CommitEnd.TheVariants as commit
use Rattle.exec_journal.specs.declared.call.Found.TheVariants as found
use Rattle.exec_journal.specs.declared.call.Started.TheVariants as start
use Rattle.exec_journal.specs.declared.call.Written.TheVariants as write
use Rattle.exec_journal.specs.declared.ends.Outcome.TheVariants as outcome
use Rattle.exec_journal.specs.declared.reply.Reply.TheVariants as reply
use Rattle.exec_journal.specs.declared.reply.Why.TheVariants as why
use Rattle.exec_journal.specs.Outcomes as o
use Rattle.exec_journal.proofs.Parts.{entry, numbered, worker, plan_of}
use Rattle.journal_laws.specs.IsLegal.{is_legal}
use Rattle.journal_laws.proofs.rows.Opened.{words, misses}

unfoldable pub boxed : Group
boxed = record { kind = kind.Boxed; cancel = false; berths = 1 }

unfoldable pub plan : Plan
unfolding plan_of worker boxed
plan = plan_of (worker ∷ worker ∷ []) (boxed ∷ []) 2

unfoldable pub boxed_4 : List Entry
unfolding entry
boxed_4 =
    entry 0 (call.Wrote 0 (pos 1) write.Done) reply.Noted
    ∷ entry 0 call.Ask (reply.Send 0 (pos 1) 0 Local 1)
    ∷ entry 0 (call.Launched 0 start.Done) reply.Noted
    ∷ entry 0 call.Ask (reply.Launch 0 0 Local 1)
    ∷ []

unfoldable pub boxed_9 : List Entry
unfolding entry boxed_4 numbered
boxed_9 =
    entry 1 (call.Answer 0 (numbered 1)) (reply.Matched 0 Local 1)
    ∷ entry 1 (call.Answer 0 (numbered 2)) (reply.Matched 1 Local 1)
    ∷ entry 1 call.Take (reply.Line 0)
    ∷ entry 0 (call.Wrote 0 (pos 2) write.Done) reply.Noted
    ∷ entry 0 call.Ask (reply.Send 0 (pos 2) 1 Local 1)
    ∷ boxed_4

unfoldable pub boxed_12 : List Entry
unfolding entry boxed_9
boxed_12 =
    entry 0 (call.Committed 1 Local commit.Done) reply.Noted
    ∷ entry 0 (call.Claim 1 Local 1 (found.Files ((121 ∷ []) ∷ []))) reply.Granted
    ∷ entry 0 call.Ask (reply.Gather 0 (pos 2) 1 Local 1 (pos 0) false)
    ∷ boxed_9

unfoldable pub two_boxed : List Entry
unfolding entry boxed_12
two_boxed =
    entry 0 call.Ask (reply.Kill 0 why.Quit)
    ∷ entry 0 (call.Committed 0 Local commit.Done) reply.Noted
    ∷ entry 0 (call.Claim 0 Local 1 (found.Files ((120 ∷ []) ∷ []))) reply.Granted
    ∷ entry 0 call.Ask (reply.Gather 0 (pos 1) 0 Local 1 (pos 0) false)
    ∷ boxed_12

two_boxed_legal : is_legal plan two_boxed ≡ true
unfolding plan two_boxed words
two_boxed_legal = refl

-- the second request doesn't get the part of the first
part_again : misses plan (entry 0 call.Ask (reply.Send 0 (pos 1) 1 Local 1) ∷ boxed_4) ≡ true
unfolding plan boxed_4 words
part_again = refl

-- nor is it sent without a number, as on a line with a whole room
whole_room : misses plan (entry 0 call.Ask (reply.Send 0 (pos 0) 1 Local 1) ∷ boxed_4) ≡ true
unfolding plan boxed_4 words
whole_room = refl

-- it waits for no answer, and gets no line of its own
new_line : misses plan (entry 0 call.Ask (reply.Launch 1 1 Local 1) ∷ boxed_4) ≡ true
unfolding plan boxed_4 words
new_line = refl

-- the part that was answered first is gathered first
second_part : misses plan (entry 0 call.Ask (reply.Gather 0 (pos 1) 0 Local 1 (pos 0) false) ∷ boxed_9) ≡ true
unfolding plan boxed_9 words
second_part = refl

-- no output of one part is taken for the other's
swapped : misses plan (entry 0 call.Ask (reply.Gather 0 (pos 1) 1 Local 1 (pos 0) false) ∷ boxed_9) ≡ true
unfolding plan boxed_9 words
swapped = refl

outcome_0 : o.outcome_of plan two_boxed 0 ≡ outcome.Success Local
unfolding plan two_boxed words
outcome_0 = refl

outcome_1 : o.outcome_of plan two_boxed 1 ≡ outcome.Success Local
unfolding plan two_boxed words
outcome_1 = refl
