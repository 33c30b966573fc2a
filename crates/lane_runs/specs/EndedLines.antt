-- The lines of a run, with what the berths have of them.
use Rattle.std.specs.Prelude.{◌≡◌, ℕ, List, map}
use Rattle.std.specs.List.{range_with_len}
use Rattle.lane_runs.specs.Placed.{IsPlaced}
use Rattle.lane_runs.specs.BerthHalves.{BerthLines, all_halves}
use Rattle.lane_runs.specs.declared.halves.EndedLine.{EndedLine}

-- there are so many lines, numbered from 0 in order, and each has the halves that a berth has of
-- it, and none where no berth has any
pub record AreLines {D T K : Type 0} (count : ℕ) (berths : List (BerthLines D T K))
    (lines : List (EndedLine D T K)) : Type 0 where
  pub numbers : map (λ x. x.number) lines ≡ range_with_len 0 count
  pub placed : IsPlaced count (all_halves berths) (map (λ x. x.halves) lines)
