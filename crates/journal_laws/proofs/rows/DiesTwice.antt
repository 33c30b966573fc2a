-- The local branch dies twice and is dropped; the remote one wins.
use Rattle.std.specs.Prelude.{◌≡◌, refl, true, false, List, [], ◌∷◌, pos}
use Rattle.run_plan.specs.declared.plan.Branch.TheVariants.{Local, Remote}
use Rattle.run_plan.specs.declared.plan.Plan.{Plan}
use Rattle.exec_journal.specs.Entry.{Entry}
use Rattle.exec_journal.specs.declared.ends.Cause.TheVariants as cause
use Rattle.exec_journal.specs.declared.ends.Fate.TheVariants as fate
use Rattle.exec_journal.specs.declared.ends.Outcome.TheVariants as outcome
use Rattle.exec_journal.specs.declared.call.Call.TheVariants as call
use Rattle.exec_journal.specs.declared.call.CommitEnd.TheVariants as commit
use Rattle.exec_journal.specs.declared.call.Found.TheVariants as found
use Rattle.exec_journal.specs.declared.call.HowEnded.TheVariants as end
use Rattle.exec_journal.specs.declared.call.Started.TheVariants as start
use Rattle.exec_journal.specs.declared.call.Wanted.TheVariants as look
use Rattle.exec_journal.specs.declared.call.Written.TheVariants as write
use Rattle.exec_journal.specs.declared.reply.Reply.TheVariants as reply
use Rattle.exec_journal.specs.declared.reply.Why.TheVariants as why
use Rattle.exec_journal.specs.Outcomes as o
use Rattle.exec_journal.specs.Rules.{rule}
use Rattle.exec_journal.specs.Race.{Race}
use Rattle.exec_journal.specs.Paired.{Paired}
use Rattle.exec_journal.proofs.Parts.{entry, with_file, dynamic, plan_of, single, remote}
use Rattle.journal_laws.specs.IsLegal.{is_legal}
use Rattle.journal_laws.proofs.rows.Opened.{words, misses}

unfoldable pub plan : Plan
unfolding plan_of dynamic single remote
plan = plan_of (dynamic ∷ []) (single 1 ∷ remote ∷ []) 2

unfoldable pub dies_twice_8 : List Entry
unfolding entry
dies_twice_8 =
    entry 2 (call.Wrote 1 (pos 1) write.Done) reply.Noted
    ∷ entry 2 call.Ask (reply.Send 1 (pos 1) 0 Remote 1)
    ∷ entry 0 (call.Wrote 0 (pos 0) write.Done) reply.Noted
    ∷ entry 0 call.Ask (reply.Send 0 (pos 0) 0 Local 1)
    ∷ entry 2 (call.Launched 1 start.Done) reply.Noted
    ∷ entry 2 call.Ask (reply.Launch 1 0 Remote 1)
    ∷ entry 0 (call.Launched 0 start.Done) reply.Noted
    ∷ entry 0 call.Ask (reply.Launch 0 0 Local 1)
    ∷ []

unfoldable pub dies_twice_12 : List Entry
unfolding entry dies_twice_8
dies_twice_12 =
    entry 0 (call.Killed 0) reply.Noted
    ∷ entry 0 call.Ask (reply.Kill 0 why.Ended)
    ∷ entry 1 (call.Ended 0 end.End) reply.Noted
    ∷ entry 1 call.Take (reply.Line 0)
    ∷ dies_twice_8

unfoldable pub dies_twice_18 : List Entry
unfolding entry dies_twice_8 dies_twice_12
dies_twice_18 =
    entry 1 (call.Ended 2 end.End) reply.Noted
    ∷ entry 1 call.Take (reply.Line 2)
    ∷ entry 0 (call.Wrote 2 (pos 0) write.Done) reply.Noted
    ∷ entry 0 call.Ask (reply.Send 2 (pos 0) 0 Local 2)
    ∷ entry 0 (call.Launched 2 start.Done) reply.Noted
    ∷ entry 0 call.Ask (reply.Launch 2 0 Local 2)
    ∷ dies_twice_12

unfoldable pub dies_twice_21 : List Entry
unfolding entry dies_twice_8 dies_twice_12 dies_twice_18
dies_twice_21 =
    entry 2 call.Ask (reply.Gather 1 (pos 1) 0 Remote 1 (pos 0) false)
    ∷ entry 3 (call.Answer 1 with_file) (reply.Matched 0 Remote 1)
    ∷ entry 3 call.Take (reply.Line 1)
    ∷ dies_twice_18

unfoldable pub dies_twice : List Entry
unfolding entry dies_twice_8 dies_twice_12 dies_twice_18 dies_twice_21
dies_twice =
    entry 2 (call.Committed 0 Remote commit.Done) reply.Noted
    ∷ entry 2 (call.Claim 0 Remote 1 (found.Files ((120 ∷ []) ∷ []))) reply.Granted
    ∷ dies_twice_21

dies_twice_legal : is_legal plan dies_twice ≡ true
unfolding plan dies_twice words
dies_twice_legal = refl

-- the lane that is to gather may look at the answer's file
answered_file : rule plan dies_twice_21 2 (call.Look (look.Answered 1 (pos 1) 0)) ≡ reply.File (120 ∷ [])
unfolding plan dies_twice_21 words
answered_file = refl

-- the next attempt has the next number
first_attempt_again : misses plan (entry 0 call.Ask (reply.Launch 2 0 Local 1) ∷ dies_twice_12) ≡ true
unfolding plan dies_twice_12 words
first_attempt_again = refl

-- a new line has a new number
line_again : misses plan (entry 0 call.Ask (reply.Launch 1 0 Local 2) ∷ dies_twice_12) ≡ true
unfolding plan dies_twice_12 words
line_again = refl

-- a broken line is killed before anything is launched
third_attempt : misses plan (entry 0 call.Ask (reply.Launch 3 0 Local 3) ∷ dies_twice_18) ≡ true
unfolding plan dies_twice_18 words
third_attempt = refl

outcome_0 : o.outcome_of plan dies_twice 0 ≡ outcome.Success Remote
unfolding plan dies_twice words
outcome_0 = refl

local_fate : o.fate_of plan dies_twice 0 Local ≡ fate.Dropped cause.Died 2
unfolding plan dies_twice words
local_fate = refl

remote_fate : o.fate_of plan dies_twice 0 Remote ≡ fate.Won
unfolding plan dies_twice words
remote_fate = refl

-- at most one branch wins, and each consumed answer has its request
dies_twice_race : Race dies_twice
unfolding dies_twice words
dies_twice_race = (((((((((((((((((((((((tt, refl), refl), refl), refl), refl), refl), refl), refl), refl), refl), refl), refl), refl), refl), refl), refl), refl), refl), refl), refl), refl), refl), refl)

dies_twice_paired : Paired plan dies_twice
unfolding plan dies_twice words
dies_twice_paired = (((((((((((((((((((((((tt, refl), refl), refl), refl), refl), refl), refl), refl), refl), refl), refl), refl), refl), refl), refl), refl), refl), refl), refl), refl), refl), refl), refl)
