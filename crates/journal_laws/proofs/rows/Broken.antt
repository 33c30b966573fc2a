-- Journals that break what is said of every legal one, and that the definitions refuse. None of them is legal.
use Rattle.std.specs.Prelude.{◌≡◌, refl, true, false, List, [], ◌∷◌, pos}
use Rattle.run_plan.specs.declared.plan.Branch.TheVariants.{Local, Remote}
use Rattle.run_plan.specs.declared.plan.Plan.{Plan}
use Rattle.exec_journal.specs.Entry.{Entry}
use Rattle.exec_journal.specs.declared.call.Call.TheVariants as call
use Rattle.exec_journal.specs.declared.call.CommitEnd.TheVariants as commit
use Rattle.exec_journal.specs.declared.call.Found.TheVariants as found
use Rattle.exec_journal.specs.declared.call.HowEnded.TheVariants as end
use Rattle.exec_journal.specs.declared.call.Started.TheVariants as start
use Rattle.exec_journal.specs.declared.call.Written.TheVariants as write
use Rattle.exec_journal.specs.declared.reply.Reply.TheVariants as reply
use Rattle.exec_journal.specs.declared.reply.Why.TheVariants as why
use Rattle.exec_journal.specs.Entries.{attempt_of}
use Rattle.exec_journal.specs.Race.{Race}
use Rattle.exec_journal.specs.Paired.{Paired}
use Rattle.exec_journal.specs.Kept.{Kept}
use Rattle.exec_journal.specs.Accounted.{Accounted}
use Rattle.exec_journal.proofs.Parts.{entry, numbered, worker, dynamic, plan_of, single, multi, remote}
use Rattle.journal_laws.proofs.rows.Opened.{words}

-- two dynamic actions, a Single berth and an executor's
unfoldable pub singles : Plan
unfolding plan_of dynamic single remote
singles = plan_of (dynamic ∷ dynamic ∷ []) (single 1 ∷ remote ∷ []) 2

-- two actions on one Multi berth
unfoldable pub multis : Plan
unfolding plan_of worker multi
multis = plan_of (worker ∷ worker ∷ []) (multi ∷ []) 2

-- ---- Race: one branch of an action wins, and its lane alone commits

unfoldable granted_once : List Entry
unfolding entry
granted_once = entry 0 (call.Claim 0 Local 1 (found.Files ([] ∷ []))) reply.Granted ∷ []

-- so far all is well
one_wins : Race granted_once
unfolding granted_once words
one_wins = (tt, refl)

-- the other branch is granted too
both_win : Race (entry 2 (call.Claim 0 Remote 1 (found.Files ([] ∷ []))) reply.Granted ∷ granted_once) → ⊥
unfolding granted_once words
both_win h = let e : false ≡ true = h.1 in cc

-- a lane commits what another was granted
stolen : Race (entry 2 (call.Committed 0 Local commit.Done) reply.Noted ∷ granted_once) → ⊥
unfolding granted_once words
stolen h = let e : false ≡ true = h.1 in cc

unfoldable committed_once : List Entry
unfolding granted_once
committed_once = entry 0 (call.Committed 0 Local commit.Done) reply.Noted ∷ granted_once

it_commits : Race committed_once
unfolding committed_once words
it_commits = ((tt, refl), refl)

-- the files are committed twice
commits_again : Race (entry 0 (call.Committed 0 Local commit.Done) reply.Noted ∷ committed_once) → ⊥
unfolding committed_once words
commits_again h = let e : false ≡ true = h.1 in cc

-- an exit code is committed
unfoldable failed_once : List Entry
unfolding entry
failed_once = entry 0 (call.Claim 0 Local 1 (found.Exit (pos 3))) reply.Granted ∷ []

commits_failure : Race (entry 0 (call.Committed 0 Local commit.Done) reply.Noted ∷ failed_once) → ⊥
unfolding failed_once words
commits_failure h = let e : false ≡ true = h.1 in cc

-- ---- Paired: each consumed answer has a request of its own

unfoldable two_sent : List Entry
unfolding entry
two_sent =
    entry 0 (call.Wrote 0 (pos 2) write.Done) reply.Noted
    ∷ entry 0 call.Ask (reply.Send 0 (pos 2) 1 Local 1)
    ∷ entry 0 (call.Wrote 0 (pos 1) write.Done) reply.Noted
    ∷ entry 0 call.Ask (reply.Send 0 (pos 1) 0 Local 1)
    ∷ entry 0 call.Ask (reply.Launch 0 0 Local 1)
    ∷ []

unfoldable one_matched : List Entry
unfolding entry two_sent
one_matched = entry 1 (call.Answer 0 (numbered 1)) (reply.Matched 0 Local 1) ∷ two_sent

it_matches : Paired multis one_matched
unfolding multis one_matched words
it_matches = ((((((tt, refl), refl), refl), refl), refl), refl)

-- one request has two answers
matched_again : Paired multis (entry 1 (call.Answer 0 (numbered 1)) (reply.Matched 0 Local 1) ∷ one_matched) → ⊥
unfolding multis one_matched words
matched_again h = let e : false ≡ true = h.1 in cc

-- an answer is matched with the request of another number
crossed : Paired multis (entry 1 (call.Answer 0 (numbered 2)) (reply.Matched 0 Local 1) ∷ two_sent) → ⊥
unfolding multis two_sent words
crossed h = let e : false ≡ true = h.1 in cc

-- a late answer has a request too
late_for_nothing : Paired multis (entry 1 (call.Answer 0 (numbered 3)) (reply.Late 1 Local 2) ∷ two_sent) → ⊥
unfolding multis two_sent words
late_for_nothing h = let e : false ≡ true = h.1 in cc

-- the number of an answered request is sent again on its line
number_again : Paired multis (entry 0 call.Ask (reply.Send 0 (pos 1) 1 Local 1) ∷ one_matched) → ⊥
unfolding multis one_matched words
number_again h = let e : false ≡ true = h.1 in cc

unfoldable one_sent : List Entry
unfolding entry
one_sent =
    entry 0 (call.Wrote 0 (pos 0) write.Done) reply.Noted
    ∷ entry 0 call.Ask (reply.Send 0 (pos 0) 0 Local 1)
    ∷ entry 0 call.Ask (reply.Launch 0 0 Local 1)
    ∷ []

-- a Single line gets a request while the one before it has no answer
sent_too_early : Paired singles (entry 0 call.Ask (reply.Send 0 (pos 0) 1 Local 1) ∷ one_sent) → ⊥
unfolding singles one_sent words
sent_too_early h = let e : false ≡ true = h.1 in cc

-- ---- Kept: what is said of each order holds where it is given

unfoldable one_live : List Entry
unfolding entry
one_live =
    entry 0 (call.Launched 0 start.Done) reply.Noted
    ∷ entry 0 call.Ask (reply.Launch 0 0 Local 1)
    ∷ []

-- a line is launched on a berth that isn't vacant
launched_over : Kept singles (entry 0 call.Ask (reply.Launch 1 1 Local 1) ∷ one_live) → ⊥
unfolding singles one_live words
launched_over h = let e : false ≡ true = h.orders.1 in cc

-- a line that didn't break is killed as broken
killed_for_nothing : Kept singles (entry 0 call.Ask (reply.Kill 0 why.Ended) ∷ one_live) → ⊥
unfolding singles one_live words
killed_for_nothing h = let e : false ≡ true = h.orders.1 in cc

unfoldable one_pending : List Entry
unfolding entry one_live
one_pending =
    entry 0 (call.Wrote 0 (pos 0) write.Done) reply.Noted
    ∷ entry 0 call.Ask (reply.Send 0 (pos 0) 0 Local 1)
    ∷ one_live

-- a Single line gets more than it has room for
overfull : Kept singles (entry 0 call.Ask (reply.Send 0 (pos 0) 1 Local 1) ∷ one_pending) → ⊥
unfolding singles one_pending words
overfull h = let e : false ≡ true = h.orders.1 in cc

-- a request that is wanted is cancelled
cancelled_though_wanted : Kept singles (entry 0 call.Ask (reply.Cancel 0 (pos 0)) ∷ one_pending) → ⊥
unfolding singles one_pending words
cancelled_though_wanted h = let e : false ≡ true = h.orders.1 in cc

-- two lines of a berth are live, though each was launched when it was vacant
unfoldable one_failed : List Entry
unfolding entry
one_failed =
    entry 0 (call.Launched 1 start.Done) reply.Noted
    ∷ entry 0 call.Ask (reply.Launch 1 0 Local 2)
    ∷ entry 0 (call.Launched 0 start.LaunchFault) reply.Noted
    ∷ entry 0 call.Ask (reply.Launch 0 0 Local 1)
    ∷ []

two_live : Kept singles (entry 0 (call.Launched 0 start.Done) reply.Noted ∷ one_failed) → ⊥
unfolding singles one_failed words
two_live h = let e : false ≡ true = h.orders.2 0 in cc

-- ---- Accounted: nothing is lost

unfoldable failed_launch : List Entry
unfolding entry
failed_launch =
    entry 0 (call.Launched 0 start.LaunchFault) reply.Noted
    ∷ entry 0 call.Ask (reply.Launch 0 0 Local 1)
    ∷ []

-- an attempt below the limit has ended, and no other follows
given_up_early : Accounted singles failed_launch → ⊥
unfolding singles failed_launch words
given_up_early h = let e : false ≡ true = h.attempts (attempt_of 0 Local 1) refl in cc

-- one of the other branch doesn't follow it
followed_by_other : Accounted singles (entry 2 call.Ask (reply.Launch 1 0 Remote 2) ∷ failed_launch) → ⊥
unfolding singles failed_launch words
followed_by_other h = let e : false ≡ true = h.attempts (attempt_of 0 Local 1) refl in cc

-- nor does its own branch's win excuse it
excused_by_itself : Accounted singles (entry 0 (call.Claim 0 Local 1 (found.Files ([] ∷ []))) reply.Granted ∷ failed_launch) → ⊥
unfolding singles failed_launch words
excused_by_itself h = let e : false ≡ true = h.attempts (attempt_of 0 Local 1) refl in cc

-- the request of a line that has Ended has neither an answer nor an end, since its attempt went to another line
unfoldable carried_off : List Entry
unfolding entry
carried_off =
    entry 1 (call.Ended 0 end.End) reply.Noted
    ∷ entry 0 call.Ask (reply.Send 1 (pos 0) 0 Local 1)
    ∷ entry 0 call.Ask (reply.Send 0 (pos 0) 0 Local 1)
    ∷ []

lost_request : Accounted singles carried_off → ⊥
unfolding singles carried_off words
lost_request h = let e : false ≡ true = h.requests in cc
