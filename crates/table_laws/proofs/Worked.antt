-- Worked journals: what the calls for their entries make of a new table is what the journal says.
use Rattle.std.specs.Prelude.{◌≡◌, refl, false, ℕ, List, [], ◌∷◌, slice_get, pos}
use Rattle.run_plan.specs.declared.plan.Branch.TheVariants.{Local, Remote}
use Rattle.run_plan.specs.declared.plan.Kind.TheVariants as kind
use Rattle.run_plan.specs.declared.plan.Plan.{Plan}
use Rattle.run_plan.specs.Groups.{berths}
use Rattle.exec_journal.specs.Entry.{Entry}
use Rattle.exec_journal.specs.declared.call.Call.TheVariants as call
use Rattle.exec_journal.specs.declared.call.Found.TheVariants as found
use Rattle.exec_journal.specs.declared.call.Started.TheVariants as start
use Rattle.exec_journal.specs.declared.call.Written.TheVariants as write
use Rattle.exec_journal.specs.declared.reply.Reply.TheVariants as reply
use Rattle.exec_journal.specs.Words as w
use Rattle.exec_journal.specs.Attempts as a
use Rattle.exec_journal.specs.Settled as s
use Rattle.exec_journal.specs.Rules as r
use Rattle.exec_journal.specs.Legal.{Legal}
use Rattle.exec_journal.proofs.Parts.{entry, answer, numbered, with_file, said_cancelled, worker, dynamic, plan_of, single, cancelling, multi, remote}
use Rattle.journal_laws.proofs.rows.AnswersTwice as twice
use Rattle.journal_laws.proofs.rows.DiesTwice as dies
use Rattle.worker_pool.specs.Rows.{Facts, new_facts, with_launch, change, set_started, set_broken, set_ended, set_killed, set_unbound, one_more, one_fewer, live_of, free_of}
use Rattle.worker_pool.specs.Stands.{line_in, seat_in, live_in}

abbrev begin : Facts → ℕ → Facts
begin f l = change f l set_started

-- of the branch that is bound
abbrev send : Facts → ℕ → Facts
send f l = change (change f l one_more) l set_unbound

-- ---- a singleplex worker answers twice: its line broke before it was killed and ended

unfoldable twice_facts : Facts
unfolding twice.plan plan_of worker dynamic single remote
twice_facts =
    let f0 : Facts = with_launch (new_facts twice.plan (berths twice.plan)) 0 kind.Single in
    let f1 : Facts = begin f0 0 in
    let f2 : Facts = send f1 0 in
    let f3 : Facts = change f2 0 one_fewer in
    let f4 : Facts = change f3 0 set_broken in
    let f5 : Facts = change f4 0 set_killed in
    let f6 : Facts = change f5 0 set_ended in
    let f7 : Facts = with_launch f6 0 kind.Single in
    f7

twice_stands : (slice_get twice_facts.lines 0 ≡ line_in twice.plan twice.twice 0)
    × (slice_get twice_facts.lines 1 ≡ line_in twice.plan twice.twice 1)
    × (slice_get twice_facts.lines 2 ≡ line_in twice.plan twice.twice 2)
    × (slice_get twice_facts.seats 0 ≡ seat_in (berths twice.plan) twice.twice 0)
    × (slice_get twice_facts.seats 1 ≡ seat_in (berths twice.plan) twice.twice 1)
    × (live_of twice_facts 0 ≡ live_in twice.twice 0) ×
    (free_of twice_facts 0 ≡ s.free_places twice.plan twice.twice kind.Single 0)
    × (free_of twice_facts 1 ≡ s.free_places twice.plan twice.twice kind.Single 1)
unfolding twice_facts twice.plan twice.twice twice.twice_6 twice.twice_7 twice.twice_10 entry answer numbered with_file said_cancelled worker dynamic plan_of single cancelling multi remote line_in seat_in w.last_work w.stopped w.has_halted w.halted w.line_count w.started w.failed w.has_ended w.was_killed w.kill_ordered w.was_taken w.launch_of w.last_line w.lines_of w.sends w.was_sent w.ever_sent w.answered w.wrote w.is_pending w.pending w.has_cancel w.line_cause w.live w.grant_of w.granted w.commit_of w.match_of a.attempt a.line_of a.fault_of a.end_of a.ended a.dropped s.standings s.settled s.all_settled s.ready s.wanted s.bound s.queued s.earliest s.free_places r.gathered
twice_stands = (refl, refl, refl, refl, refl, refl, refl, refl)

-- ---- two workers of a berth die, the executor answers

unfoldable dies_facts : Facts
unfolding dies.plan plan_of worker dynamic single remote
dies_facts =
    let f0 : Facts = with_launch (new_facts dies.plan (berths dies.plan)) 0 kind.Single in
    let f1 : Facts = begin f0 0 in
    let f2 : Facts = with_launch f1 1 kind.Remote in
    let f3 : Facts = begin f2 1 in
    let f4 : Facts = send f3 0 in
    let f5 : Facts = send f4 1 in
    let f6 : Facts = change f5 0 set_ended in
    let f7 : Facts = change f6 0 set_killed in
    let f8 : Facts = with_launch f7 0 kind.Single in
    let f9 : Facts = begin f8 2 in
    let f10 : Facts = send f9 2 in
    let f11 : Facts = change f10 2 set_ended in
    let f12 : Facts = change f11 1 one_fewer in
    f12

dies_stands : (slice_get dies_facts.lines 0 ≡ line_in dies.plan dies.dies_twice 0)
    × (slice_get dies_facts.lines 1 ≡ line_in dies.plan dies.dies_twice 1)
    × (slice_get dies_facts.lines 2 ≡ line_in dies.plan dies.dies_twice 2)
    × (slice_get dies_facts.lines 3 ≡ line_in dies.plan dies.dies_twice 3)
    × (slice_get dies_facts.seats 0 ≡ seat_in (berths dies.plan) dies.dies_twice 0)
    × (slice_get dies_facts.seats 1 ≡ seat_in (berths dies.plan) dies.dies_twice 1)
    × (slice_get dies_facts.seats 2 ≡ seat_in (berths dies.plan) dies.dies_twice 2)
    × (live_of dies_facts 0 ≡ live_in dies.dies_twice 0)
    × (live_of dies_facts 1 ≡ live_in dies.dies_twice 1)
    × (free_of dies_facts 0 ≡ s.free_places dies.plan dies.dies_twice kind.Single 0)
    × (free_of dies_facts 1 ≡ s.free_places dies.plan dies.dies_twice kind.Remote 1)
    × (free_of dies_facts 2 ≡ s.free_places dies.plan dies.dies_twice kind.Single 2)
unfolding dies_facts dies.plan dies.dies_twice dies.dies_twice_8 dies.dies_twice_12 dies.dies_twice_18 dies.dies_twice_21 entry answer numbered with_file said_cancelled worker dynamic plan_of single cancelling multi remote line_in seat_in w.last_work w.stopped w.has_halted w.halted w.line_count w.started w.failed w.has_ended w.was_killed w.kill_ordered w.was_taken w.launch_of w.last_line w.lines_of w.sends w.was_sent w.ever_sent w.answered w.wrote w.is_pending w.pending w.has_cancel w.line_cause w.live w.grant_of w.granted w.commit_of w.match_of a.attempt a.line_of a.fault_of a.end_of a.ended a.dropped s.standings s.settled s.all_settled s.ready s.wanted s.bound s.queued s.earliest s.free_places r.gathered
dies_stands = (refl, refl, refl, refl, refl, refl, refl, refl, refl, refl, refl, refl)

-- ---- a local branch is granted while the executor's line is being launched: what is bound to it
-- isn't wanted any longer

unfoldable plan : Plan
unfolding plan_of dynamic single remote
plan = plan_of (dynamic ∷ []) (single 1 ∷ remote ∷ []) 2

unfoldable early : List Entry
unfolding entry
early =
    entry 2 call.Ask (reply.Launch 1 0 Remote 1)
    ∷ entry 0 call.Ask (reply.Send 0 (pos 0) 0 Local 1)
    ∷ entry 0 (call.Launched 0 start.Done) reply.Noted
    ∷ entry 0 call.Ask (reply.Launch 0 0 Local 1)
    ∷ []

unfoldable granted : List Entry
unfolding entry early
granted =
    entry 2 (call.Launched 1 start.Done) reply.Noted
    ∷ entry 0 (call.Claim 0 Local 1 (found.Files ((120 ∷ []) ∷ []))) reply.Granted
    ∷ entry 0 call.Ask (reply.Gather 0 (pos 0) 0 Local 1 (pos 0) false)
    ∷ entry 1 (call.Answer 0 answer) (reply.Matched 0 Local 1)
    ∷ entry 0 (call.Wrote 0 (pos 0) write.Done) reply.Noted
    ∷ entry 1 call.Take (reply.Line 0)
    ∷ early

early_legal : Legal plan early
unfolding plan early granted entry answer numbered with_file said_cancelled worker dynamic plan_of single cancelling multi remote w.last_work w.stopped w.has_halted w.halted w.line_count w.started w.failed w.has_ended w.was_killed w.kill_ordered w.was_taken w.launch_of w.last_line w.lines_of w.sends w.was_sent w.ever_sent w.answered w.wrote w.is_pending w.pending w.has_cancel w.line_cause w.live w.grant_of w.granted w.commit_of w.match_of a.attempt a.line_of a.fault_of a.end_of a.ended a.dropped s.standings s.settled s.all_settled s.ready s.wanted s.bound s.queued s.earliest s.free_places r.gathered
early_legal = (
  (
    (
      (tt, record { scripted = refl; replied = refl; kept = refl }),
      record {
        scripted =
            refl;
        replied = refl;
        kept = refl;
      },
    ),
    record { scripted = refl; replied = refl; kept = refl },
  ),
  record { scripted = refl; replied = refl; kept = refl },
)

granted_legal : Legal plan granted
unfolding plan early granted entry answer numbered with_file said_cancelled worker dynamic plan_of single cancelling multi remote w.last_work w.stopped w.has_halted w.halted w.line_count w.started w.failed w.has_ended w.was_killed w.kill_ordered w.was_taken w.launch_of w.last_line w.lines_of w.sends w.was_sent w.ever_sent w.answered w.wrote w.is_pending w.pending w.has_cancel w.line_cause w.live w.grant_of w.granted w.commit_of w.match_of a.attempt a.line_of a.fault_of a.end_of a.ended a.dropped s.standings s.settled s.all_settled s.ready s.wanted s.bound s.queued s.earliest s.free_places r.gathered
granted_legal = (
  (
    (
      (
        (
          (early_legal, record { scripted = refl; replied = refl; kept = refl }),
          record {
            scripted =
                refl;
            replied = refl;
            kept = refl;
          },
        ),
        record { scripted = refl; replied = refl; kept = refl },
      ),
      record { scripted = refl; replied = refl; kept = refl },
    ),
    record {
      scripted = refl;
      replied = refl;
      kept = refl;
    },
  ),
  record { scripted = refl; replied = refl; kept = refl },
)

unfoldable early_facts : Facts
unfolding plan plan_of worker dynamic single remote
early_facts =
    let f0 : Facts = with_launch (new_facts plan (berths plan)) 0 kind.Single in
    let f1 : Facts = begin f0 0 in
    let f2 : Facts = send f1 0 in
    let f3 : Facts = with_launch f2 1 kind.Remote in
    f3

early_stands : (slice_get early_facts.lines 0 ≡ line_in plan early 0)
    × (slice_get early_facts.lines 1 ≡ line_in plan early 1)
    × (slice_get early_facts.lines 2 ≡ line_in plan early 2)
    × (slice_get early_facts.seats 0 ≡ seat_in (berths plan) early 0)
    × (slice_get early_facts.seats 1 ≡ seat_in (berths plan) early 1)
    × (slice_get early_facts.seats 2 ≡ seat_in (berths plan) early 2)
    × (live_of early_facts 0 ≡ live_in early 0) × (live_of early_facts 1 ≡ live_in early 1)
    × (free_of early_facts 0 ≡ s.free_places plan early kind.Single 0)
    × (free_of early_facts 1 ≡ s.free_places plan early kind.Remote 1)
unfolding early_facts plan early granted entry answer numbered with_file said_cancelled worker dynamic plan_of single cancelling multi remote line_in seat_in w.last_work w.stopped w.has_halted w.halted w.line_count w.started w.failed w.has_ended w.was_killed w.kill_ordered w.was_taken w.launch_of w.last_line w.lines_of w.sends w.was_sent w.ever_sent w.answered w.wrote w.is_pending w.pending w.has_cancel w.line_cause w.live w.grant_of w.granted w.commit_of w.match_of a.attempt a.line_of a.fault_of a.end_of a.ended a.dropped s.standings s.settled s.all_settled s.ready s.wanted s.bound s.queued s.earliest s.free_places r.gathered
early_stands = (refl, refl, refl, refl, refl, refl, refl, refl, refl, refl)

unfoldable granted_facts : Facts
unfolding plan plan_of worker dynamic single remote
granted_facts =
    let f0 : Facts = with_launch (new_facts plan (berths plan)) 0 kind.Single in
    let f1 : Facts = begin f0 0 in
    let f2 : Facts = send f1 0 in
    let f3 : Facts = with_launch f2 1 kind.Remote in
    let f4 : Facts = change f3 0 one_fewer in
    let f5 : Facts = change f4 1 set_unbound in
    let f6 : Facts = begin f5 1 in
    f6

granted_stands : (slice_get granted_facts.lines 0 ≡ line_in plan granted 0)
    × (slice_get granted_facts.lines 1 ≡ line_in plan granted 1)
    × (slice_get granted_facts.lines 2 ≡ line_in plan granted 2)
    × (slice_get granted_facts.seats 0 ≡ seat_in (berths plan) granted 0)
    × (slice_get granted_facts.seats 1 ≡ seat_in (berths plan) granted 1)
    × (slice_get granted_facts.seats 2 ≡ seat_in (berths plan) granted 2)
    × (live_of granted_facts 0 ≡ live_in granted 0) × (live_of granted_facts 1 ≡ live_in granted 1)
    × (free_of granted_facts 0 ≡ s.free_places plan granted kind.Single 0)
    × (free_of granted_facts 1 ≡ s.free_places plan granted kind.Remote 1)
unfolding granted_facts plan early granted entry answer numbered with_file said_cancelled worker dynamic plan_of single cancelling multi remote line_in seat_in w.last_work w.stopped w.has_halted w.halted w.line_count w.started w.failed w.has_ended w.was_killed w.kill_ordered w.was_taken w.launch_of w.last_line w.lines_of w.sends w.was_sent w.ever_sent w.answered w.wrote w.is_pending w.pending w.has_cancel w.line_cause w.live w.grant_of w.granted w.commit_of w.match_of a.attempt a.line_of a.fault_of a.end_of a.ended a.dropped s.standings s.settled s.all_settled s.ready s.wanted s.bound s.queued s.earliest s.free_places r.gathered
granted_stands = (refl, refl, refl, refl, refl, refl, refl, refl, refl, refl)
