-- What the words say of short histories.
use Rattle.std.proofs.Common.{◌≡◌, true, false, [], ◌∷◌, ◌++◌, refl}
use Rattle.seat_desk.specs.History.{entry}
use Rattle.run_plan.specs.declared.plan.Branch.TheVariants.{Local}
use Rattle.exec_journal.specs.declared.call.Call.TheVariants as call
use Rattle.exec_journal.specs.declared.call.CommitEnd.TheVariants as commit
use Rattle.exec_journal.specs.declared.call.Found.TheVariants as found
use Rattle.exec_journal.specs.declared.call.HowEnded.TheVariants as end
use Rattle.exec_journal.specs.declared.call.Started.TheVariants as start
use Rattle.exec_journal.specs.declared.reply.Reply.TheVariants as reply
use Rattle.core_contract.specs.Moves.{History}
use Rattle.core_contract.specs.Duties.{Left, duty_of}
use Rattle.core_contract.specs.Shelf.{Away, Back, place_at}
use Rattle.lane_laws.specs.Numbers.{concat}
use Rattle.lane_laws.specs.Places.{halts_owing}
use Rattle.lane_laws.specs.Taps.{taken_in}
use Rattle.lane_laws.specs.Lines.{started_from}

abbrev granted : History
granted = entry 0 (call.Claim 0 Local 1 (found.Files [])) reply.Granted ∷ []

abbrev halts : History
halts = entry 0 call.Halt reply.Noted ∷ []

-- a lane that halts before its Committed has left, and the place is away
left_early : duty_of (granted ++ halts) ≡ Left
left_early = refl

owes_still : halts_owing (granted ++ halts) ≡ true
owes_still = refl

away_still : place_at 0 (granted ++ halts) ≡ Away []
away_still = refl

-- one that makes it first leaves the place back
abbrev committed : History
committed = granted ++ entry 0 (call.Committed 0 Local commit.Done) reply.Noted ∷ []

owes_nothing : halts_owing (committed ++ halts) ≡ false
owes_nothing = refl

back_then : place_at 0 (committed ++ halts) ≡ Back [] commit.Done
back_then = refl

-- a Take that was answered Stop took nothing
takes_two : taken_in (entry 1 call.Take (reply.Line 3) ∷ entry 1 (call.Ended 3 end.End) reply.Noted
    ∷ entry 1 call.Take (reply.Line 5) ∷ entry 1 call.Take reply.Stop ∷ []) ≡ 3 ∷ 5 ∷ []
takes_two = refl

-- lines are listed berth after berth, and a launch that failed started none
starts_three : concat (started_from (entry 2 (call.Launched 0 start.Done) reply.Noted
    ∷ entry 0 (call.Launched 1 start.Done) reply.Noted
    ∷ entry 2 (call.Launched 2 start.RoomFault) reply.Noted
    ∷ entry 2 (call.Launched 3 start.Done) reply.Noted ∷ []) 0 2) ≡ 1 ∷ 0 ∷ 3 ∷ []
unfolding started_from
starts_three = refl
