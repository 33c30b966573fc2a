-- What a run with all options leaves, from that its objects tell.
use Rattle.std.proofs.Common.{◌≡◌, ℕ, List, ◌++◌, Option, Some, None}
use Rattle.outside.specs.Told.{FloorTold}
use Rattle.outside.specs.declared.floor.FloorRead.{FloorRead}
use Rattle.placed_berths.specs.Basis.{usable_placed}
use Rattle.placed_rules.specs.declared.placed.Placed.{Placed}
use Rattle.placed_rules.specs.Kept.{PlacedKept}
use Rattle.placed_rules.specs.Placed.{placed_discipline}
use Rattle.placed_runs.specs.Fronts.{PlacedPromised, placed_course}
use Rattle.real_placed.specs.Placed.{WholePlaced}
use Rattle.real_run.proofs.Each.{it_is}
use Rattle.real_run.proofs.Whole.{told_so, whole_reads, whole_task}
use Rattle.real_run.specs.Tells.{AllTell}
use Rattle.worker_run.specs.Fronts.{EndsBy, HasReadBy}
use Rattle.worker_run.specs.Seen.{EndedTold}

pub whole_placed : {W : Type 0} (words : List (List ℕ)) (before : FloorTold) (told : List FloorRead)
    (ticks : W → ℕ) (pacer after : W) (end : EndedTold) (refused : Option ℕ) → before.log ≡ Some told
    → EndsBy (placed_course words) (λ b. placed_discipline (usable_placed b))
    (λ b. PlacedKept (usable_placed b)) PlacedPromised before ticks pacer after end refused
    → AllTell end → WholePlaced words told end refused
whole_placed words before told ticks pacer after end None was h tell = record {
  basis = h.0;
  read = whole_reads (HasReadBy (placed_course words) h.0) (λ made. made.0) before told end was
      h.1.course tell.floor;
  objects = whole_task (λ t. placed_discipline (usable_placed h.0))
      (λ t. PlacedKept (usable_placed h.0)) before end h.1.task tell;
}
whole_placed words before told ticks pacer after end (Some action) was h tell = record {
  reads = h.course.0;
  log = it_is (told ++ h.course.0) end.floor.log (h.course.1 told (told_so told before.log was)) tell.floor;
  course = h.course.3;
}
