-- Both branches answer before either claims: one is granted, the other has lost.
use Rattle.std.specs.Prelude.{◌≡◌, refl, true, false, List, [], ◌∷◌, pos}
use Rattle.run_plan.specs.declared.plan.Branch.TheVariants.{Local, Remote}
use Rattle.run_plan.specs.declared.plan.Plan.{Plan}
use Rattle.exec_journal.specs.Entry.{Entry}
use Rattle.exec_journal.specs.declared.ends.Fate.TheVariants as fate
use Rattle.exec_journal.specs.declared.ends.Outcome.TheVariants as outcome
use Rattle.exec_journal.specs.declared.call.Call.TheVariants as call
use Rattle.exec_journal.specs.declared.call.CommitEnd.TheVariants as commit
use Rattle.exec_journal.specs.declared.call.Found.TheVariants as found
use Rattle.exec_journal.specs.declared.call.Started.TheVariants as start
use Rattle.exec_journal.specs.declared.call.Written.TheVariants as write
use Rattle.exec_journal.specs.declared.reply.Reply.TheVariants as reply
use Rattle.exec_journal.specs.Outcomes as o
use Rattle.exec_journal.specs.Race.{Race}
use Rattle.exec_journal.specs.Paired.{Paired}
use Rattle.exec_journal.proofs.Parts.{entry, answer, with_file, dynamic, plan_of, single, remote}
use Rattle.journal_laws.specs.IsLegal.{is_legal}
use Rattle.journal_laws.specs.Paid.{is_paid, owes}
use Rattle.journal_laws.proofs.rows.Opened.{words, misses}

unfoldable pub plan : Plan
unfolding plan_of dynamic single remote
plan = plan_of (dynamic ∷ []) (single 1 ∷ remote ∷ []) 2

unfoldable pub both_8 : List Entry
unfolding entry
both_8 =
    entry 2 (call.Wrote 1 (pos 1) write.Done) reply.Noted
    ∷ entry 2 call.Ask (reply.Send 1 (pos 1) 0 Remote 1)
    ∷ entry 0 (call.Wrote 0 (pos 0) write.Done) reply.Noted
    ∷ entry 0 call.Ask (reply.Send 0 (pos 0) 0 Local 1)
    ∷ entry 2 (call.Launched 1 start.Done) reply.Noted
    ∷ entry 2 call.Ask (reply.Launch 1 0 Remote 1)
    ∷ entry 0 (call.Launched 0 start.Done) reply.Noted
    ∷ entry 0 call.Ask (reply.Launch 0 0 Local 1)
    ∷ []

unfoldable pub both_14 : List Entry
unfolding entry both_8
both_14 =
    entry 2 call.Ask (reply.Gather 1 (pos 1) 0 Remote 1 (pos 0) false)
    ∷ entry 0 call.Ask (reply.Gather 0 (pos 0) 0 Local 1 (pos 0) false)
    ∷ entry 3 (call.Answer 1 with_file) (reply.Matched 0 Remote 1)
    ∷ entry 3 call.Take (reply.Line 1)
    ∷ entry 1 (call.Answer 0 answer) (reply.Matched 0 Local 1)
    ∷ entry 1 call.Take (reply.Line 0)
    ∷ both_8

unfoldable pub both_15 : List Entry
unfolding entry both_8 both_14
both_15 =
    entry 2 (call.Claim 0 Remote 1 (found.Files ((120 ∷ []) ∷ []))) reply.Granted
    ∷ both_14

unfoldable pub both : List Entry
unfolding entry both_8 both_14 both_15
both =
    entry 2 (call.Committed 0 Remote commit.Done) reply.Noted
    ∷ entry 0 (call.Claim 0 Local 1 (found.Files ((120 ∷ []) ∷ []))) reply.Lost
    ∷ both_15

both_legal : is_legal plan both ≡ true
unfolding plan both words
both_legal = refl

-- the other branch is not granted too
granted_twice : misses plan (entry 0 (call.Claim 0 Local 1 (found.Files ((120 ∷ []) ∷ []))) reply.Granted ∷ both_15) ≡ true
unfolding plan both_15 words
granted_twice = refl

-- the first claim is not lost
nobody_wins : misses plan (entry 2 (call.Claim 0 Remote 1 (found.Files ((120 ∷ []) ∷ []))) reply.Lost ∷ both_14) ≡ true
unfolding plan both_14 words
nobody_wins = refl

outcome_0 : o.outcome_of plan both 0 ≡ outcome.Success Remote
unfolding plan both words
outcome_0 = refl

local_fate : o.fate_of plan both 0 Local ≡ fate.Lost
unfolding plan both words
local_fate = refl

remote_fate : o.fate_of plan both 0 Remote ≡ fate.Won
unfolding plan both words
remote_fate = refl

-- at most one branch wins, and each consumed answer has its request
both_race : Race both
unfolding both words
both_race = (((((((((((((((((tt, refl), refl), refl), refl), refl), refl), refl), refl), refl), refl), refl), refl), refl), refl), refl), refl), refl)

both_paired : Paired plan both
unfolding plan both words
both_paired = (((((((((((((((((tt, refl), refl), refl), refl), refl), refl), refl), refl), refl), refl), refl), refl), refl), refl), refl), refl), refl)

-- with its grant a lane owes a Committed beside its Halt, and nobody else may make it
owes_commit_too : owes plan both_15 ≡ 5
unfolding plan both_15 words
owes_commit_too = refl

pays_commit : is_paid plan both_15 2 (call.Committed 0 Remote commit.Done) ≡ true
unfolding plan both_15 words
pays_commit = refl

pays_no_other : is_paid plan both_15 0 (call.Committed 0 Remote commit.Done) ≡ false
unfolding plan both_15 words
pays_no_other = refl

-- a lane that has halted may still commit, and doesn't halt again
pays_after_halt : is_paid plan (entry 2 call.Halt reply.Noted ∷ both_15) 2 (call.Committed 0 Remote commit.Done) ≡ true
unfolding plan both_15 words
pays_after_halt = refl

pays_one_halt : is_paid plan (entry 2 call.Halt reply.Noted ∷ both_15) 2 call.Halt ≡ false
unfolding plan both_15 words
pays_one_halt = refl

-- once it has committed, its Halt alone is left
owes_halts : owes plan both ≡ 4
unfolding plan both words
owes_halts = refl

-- a lane that stopped owes nothing
owes_no_more : owes plan (entry 1 call.Take reply.Stop ∷ both) ≡ 3
unfolding plan both words
owes_no_more = refl
