-- What a run by strategies leaves, from that its objects tell.
use Rattle.std.proofs.Common.{◌≡◌, ℕ, List, ◌++◌, Option, Some, None}
use Rattle.outside.specs.Told.{FloorTold}
use Rattle.outside.specs.declared.floor.FloorRead.{FloorRead}
use Rattle.real_run.proofs.Each.{it_is}
use Rattle.real_run.proofs.Whole.{told_so, whole_reads, whole_task}
use Rattle.real_run.specs.Tells.{AllTell}
use Rattle.real_placed.specs.Strategic.{WholeStrategic}
use Rattle.placed_runs.specs.StrategicHeadline.{SpawnRead, StrategicKeeps, spawn_kept, spawn_rules}
use Rattle.spawn_strategies.specs.declared.types.SpawnOptions.{SpawnOptions}
use Rattle.worker_run.specs.Seen.{EndedTold}

pub whole_strategic : {W : Type 0} (options : Option SpawnOptions) (before : FloorTold)
    (told : List FloorRead) (ticks : W → ℕ) (pacer after : W) (end : EndedTold) (refused : Option ℕ)
    → before.log ≡ Some told → StrategicKeeps options before ticks pacer after end refused → AllTell end
    → WholeStrategic options told end refused
whole_strategic options before told ticks pacer after end None was keeps tell = record {
  delay = keeps.delay;
  read = whole_reads (SpawnRead keeps.delay options) (λ made. made.task) before told end was keeps.course tell.floor;
  objects = whole_task (spawn_rules keeps.delay) (spawn_kept keeps.delay) before end keeps.task tell;
}
whole_strategic options before told ticks pacer after end (Some action) was keeps tell = record {
  reads = keeps.course.0;
  log = it_is (told ++ keeps.course.0) end.floor.log (keeps.course.1 told (told_so told before.log was)) tell.floor;
  course = keeps.course.3;
}
