use Rattle.std.proofs.Common.{◌≡◌, ◌≤◌, take, length, vec_capacity}
use Rattle.sandbox_rooms.proofs.Gathers.{Found}
use Rattle.sandbox_rooms.proofs.gathering.look.Given as goal

abbrev pub invariant-loop-k : goal.invariant-loop-k
invariant-loop-k g l = record {
  found : Found l.room (take l.k l.outputs) l.k l.files.items (g.B.Berth.told l.initial.berth) (g.B.Berth.told l.berth);
  files : length l.files.items ≡ l.k;
  room : length l.outputs ≤ vec_capacity l.files;
}
