use Rattle.std.proofs.Common.{◌≡◌, ◌≤◌, map, vec_len, vec_capacity}
use Rattle.outside.specs.Told.{Makes}
use Rattle.worker_run.specs.Lanes.{AreNewBerths}
use Rattle.worker_run.proofs.objects.make_berths.Given as goal

abbrev pub invariant-loop-number : goal.invariant-loop-number
invariant-loop-number g l = record {
  within : l.number ≤ l.number-end;
  berths : AreNewBerths l.number (map g.F.Berth.Berth.told l.berths.items);
  len : vec_len l.berths ≡ l.number;
  room : l.number-end ≤ vec_capacity l.berths;
  made : Makes l.number 0 (g.F.Floor.told l.initial.floor) (g.F.Floor.told l.floor);
  log : (g.F.Floor.told l.floor).log ≡ (g.F.Floor.told l.initial.floor).log;
  count : (g.F.Floor.told l.initial.floor).faults ≤ (g.F.Floor.told l.floor).faults;
}
