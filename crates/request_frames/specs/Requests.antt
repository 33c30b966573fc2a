-- The requests that a worker is written for an order.
use Rattle.std.specs.Prelude.{◌≡◌, ℕ, ℤ, List, [], map, Bool, true, false, pos, if◌then◌else◌}
use Rattle.run_plan.specs.declared.plan.Kind.{Kind}
use Rattle.run_plan.specs.declared.plan.Kind.TheVariants as kind
use Rattle.wire_messages.specs.declared.input.Input.{Input}
use Rattle.wire_messages.specs.declared.request.WorkRequest.{WorkRequest}
use Rattle.remote_messages.specs.declared.file.NamedFile.{NamedFile}
use Rattle.remote_messages.specs.declared.work.Origin.{Origin}
use Rattle.remote_messages.specs.declared.work.Origin.TheVariants as origin
use Rattle.remote_messages.specs.declared.work.WorkAction.{WorkAction}
use Rattle.sandbox_rooms.specs.declared.room.Room.{Room}
use Rattle.sandbox_rooms.specs.declared.room.Room.TheVariants as room
use Rattle.sandbox_rooms.specs.Rooms.{part_of}
use Rattle.plain_values.specs.Digests.{digest_text}

-- The room of a request with this number, by the kind of its line. The executor has rooms of its
-- own.
abbrev pub room_for : Kind → ℤ → Room
room_for kind.Single number = room.Whole
room_for kind.Multi number = room.Shared
room_for kind.Boxed number = room.Part number
room_for kind.Remote number = room.Whole

-- the folder that the worker is told to work in, where that isn't the whole room
abbrev pub sandbox_for : Room → List ℕ
sandbox_for room.Whole = []
sandbox_for room.Shared = []
sandbox_for (room.Part number) = part_of number

-- a source's bytes are its own; those of a made input are what a Look told
abbrev pub IsFrom : Origin → List ℕ → Type 0
IsFrom (origin.Source bytes) content = content ≡ bytes
IsFrom (origin.Made a o) content = Unit {0}

-- an input with the digest of its own bytes
abbrev pub input_of : NamedFile → Input
input_of file = record { path = file.path; digest = digest_text file.content }

-- the request of a Send: the action's expanded words, and its inputs, in order
abbrev pub request_for : ℤ → WorkAction → List NamedFile → Bool → Room → WorkRequest
request_for number action inputs verbose room = record {
  arguments = action.request_words;
  inputs = map input_of inputs;
  request_id = number;
  cancel = false;
  verbosity = if verbose then pos 10 else pos 0;
  sandbox_dir = sandbox_for room;
}

-- the request of a Cancel: the number, and that the request which has it is to be given up
abbrev pub cancelling : ℤ → WorkRequest
cancelling number = record {
  arguments = [];
  inputs = [];
  request_id = number;
  cancel = true;
  verbosity = pos 0;
  sandbox_dir = [];
}
