-- What a run leaves, as its objects tell it.
use Rattle.std.specs.Prelude.{ℕ, Bool, true, false, List, [], Option, Some, None}
use Rattle.build_report.specs.declared.fault.RunFault.{RunFault}
use Rattle.build_report.specs.declared.fault.Stage.{Stage}
use Rattle.build_report.specs.declared.fault.Stage.TheVariants as stage
use Rattle.lane_runs.specs.Runs.{LaidTold}
use Rattle.outside.specs.Told.{FloorTold, BerthTold, PlaceTold}
use Rattle.run_tasks.specs.declared.task.Task.{Task}

-- what is left of a run's lanes: the journal, whose oldest entry stands first, what its berths, its
-- lines, the line of each berth that wasn't reported, and its places tell, and whether a lane has
-- halted
abbrev pub Left : Type 0
Left = LaidTold

-- these berths and places, and nothing else
abbrev pub unrun : List BerthTold → List PlaceTold → Left
unrun berths places = record {
  journal = [];
  berths = berths;
  lines = [];
  unsaid = [];
  places = places;
  halted = false;
}

abbrev pub nothing_left : Left
nothing_left = unrun [] []

-- a run of lanes over a floor
pub record RanTold : Type 0 where
  pub fault : Option Stage
  pub floor : FloorTold
  pub left : Left

abbrev pub ran_told : Option Stage → FloorTold → Left → RanTold
ran_told fault floor left = record { fault = fault; floor = floor; left = left }

abbrev pub stage_of : Bool → Option Stage
stage_of true = Some stage.During
stage_of false = None

-- what lanes have left, with the floor
abbrev pub ran_by : FloorTold → Left → RanTold
ran_by floor x = ran_told (stage_of x.halted) floor x

-- the whole result of a run
pub record EndedTold : Type 0 where
  pub status : ℕ
  pub fault : Option RunFault
  pub floor : FloorTold
  pub task : Option Task
  pub left : Left

abbrev pub ended_told : ℕ → Option RunFault → FloorTold → Option Task → Left → EndedTold
ended_told status fault floor task left =
    record { status = status; fault = fault; floor = floor; task = task; left = left }
