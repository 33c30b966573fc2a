use Rattle.std.proofs.Common.{◌≡◌, ◌≤◌, vec_len, vec_capacity}
use Rattle.outside.specs.Told.{Makes}
use Rattle.core_machine.specs.Objects.{AreFresh}
use Rattle.worker_run.proofs.objects.make_places.Given as goal

abbrev pub invariant-loop-action : goal.invariant-loop-action
invariant-loop-action g l = record {
  within : l.action ≤ l.action-end;
  places : AreFresh g.F.Place.Place.told l.action l.places.items;
  len : vec_len l.places ≡ l.action;
  room : l.action-end ≤ vec_capacity l.places;
  made : Makes 0 l.action (g.F.Floor.told l.initial.floor) (g.F.Floor.told l.floor);
  log : (g.F.Floor.told l.floor).log ≡ (g.F.Floor.told l.initial.floor).log;
  count : (g.F.Floor.told l.initial.floor).faults ≤ (g.F.Floor.told l.floor).faults;
}
