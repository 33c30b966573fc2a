-- What is asked of a berth before a Send to a local line.
use Rattle.std.specs.Prelude.{List}
use Rattle.sandbox_rooms.specs.Calls.{Asked}
use Rattle.sandbox_rooms.specs.Rooms.{prepare_asks}
use Rattle.berth_acts.specs.declared.sending.RoomFiles.{RoomFiles}

-- the calls that make the room ready
abbrev pub preparing : RoomFiles → List Asked
preparing files = prepare_asks files.room files.outputs.now files.inputs.now
