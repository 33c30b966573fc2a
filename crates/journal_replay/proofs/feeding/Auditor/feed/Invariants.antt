use Rattle.std.proofs.Common.{Bool, ℕ, ◌+◌, ◌<◌, ◌≤◌, ◌^◌, List, ◌++◌, length, take}
use Rattle.journal_replay.specs.Fed.{Fed, FedSo}
use Rattle.journal_replay.proofs.Pieces.{part}
use Rattle.journal_replay.proofs.feeding.Auditor.feed.Given as goal

abbrev pub invariant-loop-at : goal.invariant-loop-at
invariant-loop-at g l = record {
  order : l.start ≤ l.at;
  fed : (skips : Bool) (bytes : List ℕ) → Fed {C = g.row.C.Denot} skips g.C.Replayed.rules g.C.Replayed.stands l.fn.self bytes → length bytes + length l.piece < 2 ^ 63
      → FedSo {C = g.row.C.Denot} skips g.C.Replayed.rules g.C.Replayed.stands l.self.stage l.self.number (l.self.begun.items ++ part l.piece l.start l.at) (bytes ++ take l.at l.piece);
}
