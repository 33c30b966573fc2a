-- What a run of shared berths leaves, from that its objects tell.
use Rattle.std.proofs.Common.{◌≡◌, List, Option, Some}
use Rattle.outside.specs.Told.{FloorTold}
use Rattle.outside.specs.declared.floor.FloorRead.{FloorRead}
use Rattle.real_run.proofs.Whole.{whole_reads, whole_task}
use Rattle.real_run.specs.Tells.{AllTell}
use Rattle.real_placed.specs.Shared.{WholeShared}
use Rattle.placed_runs.specs.SharedHeadline.{SharedKeeps, SharedRead, shared_kept, shared_rules}
use Rattle.shared_tasks.specs.declared.words.SharedOptions.{SharedOptions}
use Rattle.worker_run.specs.Seen.{EndedTold}

pub whole_shared : (options : Option SharedOptions) (before : FloorTold) (told : List FloorRead)
    (end : EndedTold) → before.log ≡ Some told → SharedKeeps options before end → AllTell end
    → WholeShared options told end
whole_shared options before told end was keeps tell = record {
  sharing = keeps.sharing;
  read = whole_reads (SharedRead keeps.sharing options) (λ made. made.task) before told end was keeps.course tell.floor;
  objects = whole_task (shared_rules keeps.sharing) (shared_kept keeps.sharing) before end keeps.task tell;
}
