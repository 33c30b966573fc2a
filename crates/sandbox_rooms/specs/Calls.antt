-- Calls on a berth, one after another up to the first that doesn't go well.
use Rattle.std.specs.Prelude.{◌≡◌, ℕ, List, [], ◌∷◌, Bool, true, false, Result, Ok, Err}
use Rattle.plain_values.specs.declared.no_memory.NoMemory.{NoMemory}
use Rattle.outside.specs.Causes.{Counts}
use Rattle.outside.specs.Lists.{Adds}
use Rattle.outside.specs.Told.{BerthTold, SameBerth}
use Rattle.outside.specs.declared.answers.Io.{Io}
use Rattle.outside.specs.declared.answers.Io.TheVariants as io
use Rattle.outside.specs.declared.answers.Read.{Read}
use Rattle.outside.specs.declared.answers.Read.TheVariants as read
use Rattle.outside.specs.declared.berth.BerthCall.{BerthCall}
use Rattle.outside.specs.declared.berth.BerthCall.TheVariants as call
use Rattle.plain_values.specs.declared.command.Command.{Command}

-- a call on a berth, without its answer
pub data Asked : Type 0 where
  Launch : ℕ → Command → Asked
  Clear : List ℕ → Asked
  Folder : List ℕ → Asked
  Put : List ℕ → List ℕ → Asked
  Get : List ℕ → Asked
  End : ℕ → Asked

abbrev pub asked : BerthCall → Asked
asked (call.Launch line command end) = Launch line command
asked (call.Clear part end) = Clear part
asked (call.Folder path end) = Folder path
asked (call.Put path bytes end) = Put path bytes
asked (call.Get path answer) = Get path
asked (call.End line) = End line

abbrev pub is_done : Io → Bool
is_done io.Done = true
is_done io.Failed = false

abbrev pub is_found : Read → Bool
is_found (read.Found bytes) = true
is_found read.Absent = false
is_found read.Failed = false

-- The call was answered Done or Found. An End has no answer.
abbrev pub went_well : BerthCall → Bool
went_well (call.Launch line command end) = is_done end
went_well (call.Clear part end) = is_done end
went_well (call.Folder path end) = is_done end
went_well (call.Put path bytes end) = is_done end
went_well (call.Get path answer) = is_found answer
went_well (call.End line) = true

-- how calls that were to be made ended
pub data RunEnd : Type 0 where
  -- all were made, and all went well
  Whole : RunEnd
  -- the last that was made didn't go well
  Stopped : RunEnd
  -- those that were made went well, and the next found no memory
  Cut : RunEnd

abbrev pub io_end : Io → RunEnd
io_end io.Done = Whole
io_end io.Failed = Stopped

abbrev pub run_end : Result Io NoMemory → RunEnd
run_end (Ok i) = io_end i
run_end (Err e) = Cut

-- nothing more was made
abbrev pub EndsHere : RunEnd → List Asked → Type 0
EndsHere Whole [] = Unit {0}
EndsHere Whole (a ∷ asks) = ⊥
EndsHere Stopped asks = ⊥
EndsHere Cut asks = Unit {0}

-- after a call that didn't go well
abbrev pub StopsHere : RunEnd → List BerthCall → Type 0
StopsHere Whole log = ⊥
StopsHere Stopped log = log ≡ []
StopsHere Cut log = ⊥

abbrev pub GoesOn : RunEnd → Bool → List BerthCall → Type 0 → Type 0
GoesOn end true log Rest = Rest
GoesOn end false log Rest = StopsHere end log

-- Of these calls the first were made, in order, and they ended so.
abbrev pub Runs : RunEnd → List Asked → List BerthCall → Type 0
Runs end asks [] = EndsHere end asks
Runs end [] (c ∷ log) = ⊥
Runs end (a ∷ asks) (c ∷ log) = (asked c ≡ a) × GoesOn end (went_well c) log (Runs end asks log)

-- These calls were made on the berth. They stand at the end of its log, and its count rose where
-- one failed.
pub record Made (calls : List BerthCall) (Failed : Type 0) (old new : BerthTold) : Type 0 where
  pub log : Adds calls old.log new.log
  pub count : Counts old.faults new.faults Failed
  pub same : SameBerth old new

abbrev pub IsStopped : RunEnd → Type 0
IsStopped Whole = ⊥
IsStopped Stopped = Unit {0}
IsStopped Cut = ⊥

-- some first of these calls were made on the berth, and they ended so
abbrev pub MakesRun : RunEnd → List Asked → BerthTold → BerthTold → Type 0
MakesRun end asks old new =
    (calls : List BerthCall) × Runs end asks calls × Made calls (IsStopped end) old new
