-- What the worked journals compute with. Who opens `words` opens all of it. And what a near miss is.
use Rattle.std.specs.Prelude.{Bool, false, ◌&&◌, not, List, [], ◌∷◌}
use Rattle.run_plan.specs.declared.plan.Plan.{Plan}
use Rattle.exec_journal.specs.Entry.{Entry}
use Rattle.exec_journal.specs.Rules.{rule}
use Rattle.exec_journal.specs.Scripts.{script}
use Rattle.exec_journal.specs.Words as w
use Rattle.exec_journal.specs.Attempts as a
use Rattle.exec_journal.specs.Settled as s
use Rattle.exec_journal.specs.Rules as r
use Rattle.exec_journal.specs.Seated as g
use Rattle.exec_journal.specs.Outcomes as o
use Rattle.exec_journal.specs.Race.{has_grant_of, committed}
use Rattle.exec_journal.specs.Accounted.{is_followed}
use Rattle.exec_journal.proofs.Parts as part
use Rattle.exec_journal.specs.Same.{same_reply}
use Rattle.journal_laws.specs.IsLegal.{is_legal}
use Rattle.journal_laws.specs.Paid.{lane_owes, lanes_owe}

unfoldable pub words : Unit {0}
unfolding is_legal same_reply lane_owes lanes_owe part.entry part.answer part.numbered part.with_file part.greeting part.cancelled_1 part.said_cancelled part.worker part.dynamic part.plan_of part.single part.cancelling part.multi part.remote w.last_work w.stopped w.has_halted w.halted w.line_count w.started w.failed w.has_ended w.was_killed w.kill_ordered w.was_taken w.has_spoken w.has_greeted w.launch_of w.last_line w.lines_of w.sends w.was_sent w.ever_sent w.answered w.wrote w.is_pending w.pending w.has_cancel w.line_cause w.live w.grant_of w.granted w.commit_of w.match_of a.attempt a.line_of a.fault_of a.end_of a.ended a.dropped s.standings s.settled s.all_settled s.ready s.wanted s.bound s.queued s.earliest s.free_places r.gathered g.group_on o.outcome_of o.fate_of has_grant_of committed is_followed
words = tt

-- legal up to its newest entry, whose call is in the script, but whose reply isn't the rule's
abbrev pub misses : Plan → List Entry → Bool
misses p [] = false
misses p (e ∷ j) = is_legal p j && (script p j e.lane e.call && not (same_reply e.reply (rule p j e.lane e.call)))
