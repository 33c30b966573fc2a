use Rattle.std.proofs.Common.{◌≤◌}
use Rattle.journal_replay.proofs.Taken.{SoFar}
use Rattle.journal_replay.proofs.streaming.read_all.Given as goal

abbrev pub invariant-loop : goal.invariant-loop
invariant-loop g l = record {
  so_far : SoFar {C = g.row.C.Denot} g.C.Replayed.rules g.C.Replayed.stands l.auditor (g.T.Tap.told l.fn.input) (g.T.Tap.told l.input) l.counter l.taken;
  later : (g.T.Tap.told l.fn.input).faults ≤ (g.T.Tap.told l.input).faults;
}
