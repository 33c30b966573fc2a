-- The pacer of a run, which a lane of Ticks takes if there is one.
use Rattle.std.specs.Prelude.{Bool, true, false, Option, Some, None}

-- for that lane, and beside it
abbrev pub seat_pacer : {W : Type 0} → Bool → W → Option W × Option W
seat_pacer true pacer = (Some pacer, None)
seat_pacer false pacer = (None, Some pacer)

-- the one that the lane gave back, or the one beside it
abbrev pub pacer_of : {W : Type 0} → Option W → Option W → Option W
pacer_of (Some pacer) spare = Some pacer
pacer_of None spare = spare
