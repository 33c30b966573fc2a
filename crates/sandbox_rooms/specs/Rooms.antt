-- What is done in a room for a request: it is made ready, and looked at after the answer.
use Rattle.std.specs.Prelude.{◌≡◌, ℕ, ◌+◌, ℤ, List, [], ◌∷◌, ◌++◌, map, codes, length, take, ◌<◌, Option, option_map, Result, Ok, Err}
use Rattle.std.specs.List.{filter_map}
use Rattle.std.specs.Path.{rfind_below}
use Rattle.std.specs.Fmt.{signed_decimal}
use Rattle.plain_values.specs.declared.no_memory.NoMemory.{NoMemory}
use Rattle.outside.specs.Told.{BerthTold}
use Rattle.outside.specs.declared.answers.Read.TheVariants as read
use Rattle.outside.specs.declared.berth.BerthCall.{BerthCall}
use Rattle.outside.specs.declared.berth.BerthCall.TheVariants as call
use Rattle.remote_messages.specs.declared.file.NamedFile.{NamedFile}
use Rattle.sandbox_rooms.specs.declared.room.Room.{Room}
use Rattle.sandbox_rooms.specs.declared.room.Room.TheVariants as room
use Rattle.sandbox_rooms.specs.declared.gathering.Gathered.{Gathered}
use Rattle.sandbox_rooms.specs.declared.gathering.Gathered.TheVariants as gathered
use Rattle.sandbox_rooms.specs.Calls.{Asked, asked, Clear, Folder, Put, Get, RunEnd, Whole, Stopped, Cut, Runs, Made}

-- the folder of a request of its own
abbrev pub part_of : ℤ → List ℕ
part_of number = codes "__sandbox/" ++ signed_decimal number

-- a path of the request, as it stands in the room
abbrev pub in_room : Room → List ℕ → List ℕ
in_room room.Whole path = path
in_room room.Shared path = path
in_room (room.Part number) path = part_of number ++ 47 ∷ path

-- What is cleared: all, each output, or the request's folder. That folder is made anew, so that a
-- worker finds it also where it has no file yet.
abbrev pub clear_asks : Room → List (List ℕ) → List Asked
clear_asks room.Whole outputs = Clear [] ∷ []
clear_asks room.Shared outputs = map Clear outputs
clear_asks (room.Part number) outputs = Clear (part_of number) ∷ Folder (part_of number) ∷ []

-- the folder of a path: what stands before its last slash, where it has one
abbrev pub folder_of : List ℕ → Option (List ℕ)
folder_of path = option_map (λ end. take end path) (rfind_below 47 path (length path))

-- the folder of an output that is to stand in one
abbrev pub folder_ask : Room → List ℕ → Option Asked
folder_ask room output = option_map (λ folder. Folder (in_room room folder)) (folder_of output)

abbrev pub folder_asks : Room → List (List ℕ) → List Asked
folder_asks room outputs = filter_map (folder_ask room) outputs

abbrev pub put_ask : Room → NamedFile → Asked
put_ask room input = Put (in_room room input.path) input.content

-- the outputs' folders are made, and the inputs are put, in order
abbrev pub fill_asks : Room → List (List ℕ) → List NamedFile → List Asked
fill_asks room outputs inputs = folder_asks room outputs ++ map (put_ask room) inputs

-- For a request: the room is cleared, and then filled.
abbrev pub prepare_asks : Room → List (List ℕ) → List NamedFile → List Asked
prepare_asks room outputs inputs = clear_asks room outputs ++ fill_asks room outputs inputs

abbrev pub get_ask : Room → List ℕ → Asked
get_ask room output = Get (in_room room output)

-- for an answer: the outputs are looked at in order
abbrev pub gather_asks : Room → List (List ℕ) → List Asked
gather_asks room outputs = map (get_ask room) outputs

-- what looks gave, after these files
abbrev pub gathered_after : ℕ → List (List ℕ) → List BerthCall → Gathered
gathered_after k files [] = gathered.Files files
gathered_after k files (call.Get path (read.Found bytes) ∷ log) =
    gathered_after (k + 1) (files ++ bytes ∷ []) log
gathered_after k files (call.Get path read.Absent ∷ log) = gathered.Missing k
gathered_after k files (_ ∷ log) = gathered.RoomFault

abbrev pub gathered_in : List BerthCall → Gathered
gathered_in log = gathered_after 0 [] log

abbrev pub gather_end : Result Gathered NoMemory → RunEnd
gather_end (Ok (gathered.Files files)) = Whole
gather_end (Ok (gathered.Missing k)) = Stopped
gather_end (Ok gathered.RoomFault) = Stopped
gather_end (Err e) = Cut

abbrev pub Gives : Result Gathered NoMemory → List BerthCall → Type 0
Gives (Ok g) calls = g ≡ gathered_in calls
Gives (Err e) calls = Unit {0}

abbrev pub IsRoomFault : Result Gathered NoMemory → Type 0
IsRoomFault (Ok (gathered.Files files)) = ⊥
IsRoomFault (Ok (gathered.Missing k)) = ⊥
IsRoomFault (Ok gathered.RoomFault) = Unit {0}
IsRoomFault (Err e) = ⊥

-- The outputs were looked at, up to the first that wasn't found, and the answer says what was
-- found.
abbrev pub MakesLooks : List Asked → Result Gathered NoMemory → BerthTold → BerthTold → Type 0
MakesLooks asks result old new =
    (calls : List BerthCall) × Runs (gather_end result) asks calls × Gives result calls
    × Made calls (IsRoomFault result) old new

-- Behind them the folder of a request of its own is removed.
abbrev pub leave_asks : Room → List Asked
leave_asks room.Whole = []
leave_asks room.Shared = []
leave_asks (room.Part number) = Clear (part_of number) ∷ []

-- the calls for an answer: the looks, and those behind looks that found all
pub record GatherAsks : Type 0 where
  pub looks : List Asked
  pub leaves : List Asked

abbrev pub gathering : Room → List (List ℕ) → GatherAsks
gathering room outputs = record { looks = gather_asks room outputs; leaves = leave_asks room }

-- Where all outputs were found, these calls were made, well or not. Else none was.
abbrev pub Leaves : List Asked → Result Gathered NoMemory → List BerthCall → Type 0
Leaves asks (Ok (gathered.Files files)) calls = map asked calls ≡ asks
Leaves asks (Ok (gathered.Missing k)) calls = calls ≡ []
Leaves asks (Ok gathered.RoomFault) calls = calls ≡ []
Leaves asks (Err e) calls = calls ≡ []

-- The outputs were looked at, up to the first that wasn't found, the answer says what was found,
-- and the folder was left.
abbrev pub MakesGather : GatherAsks → Result Gathered NoMemory → BerthTold → BerthTold → Type 0
MakesGather asks result old new =
    (looks : List BerthCall) × (last : List BerthCall)
    × Runs (gather_end result) asks.looks looks × Gives result looks
    × Leaves asks.leaves result last × Made (looks ++ last) (IsRoomFault result) old new

-- There is a file for each output, or an output is named that there is.
abbrev pub FitsOutputs : ℕ → Result Gathered NoMemory → Type 0
FitsOutputs n (Ok (gathered.Files files)) = length files ≡ n
FitsOutputs n (Ok (gathered.Missing k)) = k < n
FitsOutputs n (Ok gathered.RoomFault) = Unit {0}
FitsOutputs n (Err e) = Unit {0}
