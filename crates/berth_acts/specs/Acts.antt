-- What is done for an order: the calls that are made on the berth, and the bytes that are given to
-- the line's feed.
use Rattle.std.specs.Prelude.{◌≡◌, ◌≤◌, ◌<◌, ℕ, List, [], ◌∷◌, length, take, Result, Ok, Err}
use Rattle.plain_values.specs.declared.no_memory.NoMemory.{NoMemory}
use Rattle.outside.specs.Causes.{Counts}
use Rattle.outside.specs.Lists.{Adds}
use Rattle.outside.specs.Told.{BerthTold, FeedTold, SameFeed}
use Rattle.outside.specs.declared.answers.Io.TheVariants as io
use Rattle.outside.specs.declared.berth.BerthCall.{BerthCall}
use Rattle.outside.specs.declared.berth.BerthCall.TheVariants as call
use Rattle.plain_values.specs.declared.command.Command.{Command}
use Rattle.exec_journal.specs.declared.call.Started.{Started}
use Rattle.exec_journal.specs.declared.call.Started.TheVariants as start
use Rattle.exec_journal.specs.declared.call.Written.{Written}
use Rattle.exec_journal.specs.declared.call.Written.TheVariants as write
use Rattle.exec_journal.specs.declared.call.Found.{Found}
use Rattle.exec_journal.specs.declared.call.Found.TheVariants as found
use Rattle.sandbox_rooms.specs.declared.gathering.Gathered.{Gathered}
use Rattle.sandbox_rooms.specs.declared.gathering.Gathered.TheVariants as gathered
use Rattle.sandbox_rooms.specs.Calls.{Asked, Whole, Stopped, Cut, Runs, Made}
use Rattle.sandbox_rooms.specs.Rooms.{GatherAsks, MakesGather}
use Rattle.berth_acts.specs.declared.launching.Opened.{Opened}
use Rattle.berth_acts.specs.declared.launching.Opened.TheVariants as opened

-- ---- bytes for a line

-- a front of the frame
abbrev pub IsFront : List ℕ → List ℕ → Type 0
IsFront frame given = (n : ℕ) × (n ≤ length frame) × (given ≡ take n frame)

-- These bytes were given to the feed. They stand at the end of what it was given, and its count
-- rose where it failed.
pub record Gave (given : List ℕ) (Failed : Type 0) (old new : FeedTold) : Type 0 where
  pub given_on : Adds given old.given new.given
  pub count : Counts old.faults new.faults Failed
  pub same : SameFeed old new

-- the feed failed
abbrev pub IsFeedFault : Written → Type 0
IsFeedFault write.Done = ⊥
IsFeedFault write.RoomFault = ⊥
IsFeedFault write.FeedFault = Unit {0}
IsFeedFault write.TooLarge = ⊥

-- the bytes, by what is reported
abbrev pub GivenBy : List ℕ → Written → List ℕ → Type 0
GivenBy frame write.Done given = given ≡ frame
GivenBy frame write.FeedFault given = IsFront frame given
GivenBy frame write.RoomFault given = ⊥
GivenBy frame write.TooLarge given = ⊥

abbrev pub GivesFrame : List ℕ → Written → FeedTold → FeedTold → Type 0
GivesFrame frame how old new =
    (given : List ℕ) × GivenBy frame how given × Gave given (IsFeedFault how) old new

-- ---- Launch

-- the calls, by what is reported: the room is emptied, and the line's command is started in it
abbrev pub LaunchedBy : ℕ → Command → Started → List BerthCall → Type 0
LaunchedBy line command start.Done calls =
    calls ≡ call.Clear [] io.Done ∷ call.Launch line command io.Done ∷ []
LaunchedBy line command start.RoomFault calls = calls ≡ call.Clear [] io.Failed ∷ []
LaunchedBy line command start.LaunchFault calls =
    calls ≡ call.Clear [] io.Done ∷ call.Launch line command io.Failed ∷ []

module _ {D T C : Type 0} where
  abbrev pub started_as : Opened D T C → Started
  started_as (opened.Line feed tap child) = start.Done
  started_as opened.RoomFault = start.RoomFault
  started_as opened.LaunchFault = start.LaunchFault

  abbrev pub OnOpened : Opened D T C → (D → T → C → Type 0) → Type 0
  OnOpened (opened.Line feed tap child) P = P feed tap child
  OnOpened opened.RoomFault P = Unit {0}
  OnOpened opened.LaunchFault P = Unit {0}

  -- with no report, since memory ran out, the room was emptied and nothing started
  abbrev pub LaunchDone : ℕ → Command → Result (Opened D T C) NoMemory → List BerthCall → Type 0
  LaunchDone line command (Ok o) calls = LaunchedBy line command (started_as o) calls
  LaunchDone line command (Err e) calls = calls ≡ call.Clear [] io.Done ∷ []

  abbrev pub NotOpened : Result (Opened D T C) NoMemory → Type 0
  NotOpened (Ok (opened.Line feed tap child)) = ⊥
  NotOpened (Ok opened.RoomFault) = Unit {0}
  NotOpened (Ok opened.LaunchFault) = Unit {0}
  NotOpened (Err e) = ⊥

  abbrev pub Launches : ℕ → Command → Result (Opened D T C) NoMemory → BerthTold → BerthTold
      → Type 0
  Launches line command result old new =
      (calls : List BerthCall) × LaunchDone line command result calls
      × Made calls (NotOpened result) old new

  -- the launch itself, in a room that was emptied
  abbrev pub StartDone : ℕ → Command → Result (Opened D T C) NoMemory → List BerthCall → Type 0
  StartDone line command (Ok (opened.Line feed tap child)) calls =
      calls ≡ call.Launch line command io.Done ∷ []
  StartDone line command (Ok opened.RoomFault) calls = ⊥
  StartDone line command (Ok opened.LaunchFault) calls =
      calls ≡ call.Launch line command io.Failed ∷ []
  StartDone line command (Err e) calls = calls ≡ []

  abbrev pub Starts : ℕ → Command → Result (Opened D T C) NoMemory → BerthTold → BerthTold → Type 0
  Starts line command result old new =
      (calls : List BerthCall) × StartDone line command result calls
      × Made calls (NotOpened result) old new

-- ---- Send to a local line

-- the calls and the bytes, by what is reported: the room is made ready, and then the frame is given
abbrev pub SentBy : List Asked → List ℕ → Written → List BerthCall → List ℕ → Type 0
SentBy asks frame write.Done calls given = Runs Whole asks calls × (given ≡ frame)
SentBy asks frame write.FeedFault calls given = Runs Whole asks calls × IsFront frame given
SentBy asks frame write.RoomFault calls given = Runs Stopped asks calls × (given ≡ [])
SentBy asks frame write.TooLarge calls given = ⊥

-- with no report, since memory ran out, nothing was given
abbrev pub SendDone : List Asked → List ℕ → Result Written NoMemory → List BerthCall → List ℕ
    → Type 0
SendDone asks frame (Ok how) calls given = SentBy asks frame how calls given
SendDone asks frame (Err e) calls given = Runs Cut asks calls × (given ≡ [])

abbrev pub RoomFailed : Result Written NoMemory → Type 0
RoomFailed (Ok write.Done) = ⊥
RoomFailed (Ok write.RoomFault) = Unit {0}
RoomFailed (Ok write.FeedFault) = ⊥
RoomFailed (Ok write.TooLarge) = ⊥
RoomFailed (Err e) = ⊥

abbrev pub FeedFailed : Result Written NoMemory → Type 0
FeedFailed (Ok how) = IsFeedFault how
FeedFailed (Err e) = ⊥

abbrev pub Sends : List Asked → List ℕ → Result Written NoMemory → BerthTold → BerthTold → FeedTold
    → FeedTold → Type 0
Sends asks frame result old new before after =
    (calls : List BerthCall) × (given : List ℕ) × SendDone asks frame result calls given
    × Made calls (RoomFailed result) old new × Gave given (FeedFailed result) before after

-- ---- Gather on a local line

abbrev pub found_as : Gathered → Found
found_as (gathered.Files files) = found.Files files
found_as (gathered.Missing k) = found.Missing k
found_as gathered.RoomFault = found.RoomFault

-- what is reported is what the looks gave
abbrev pub ReportsLooks : GatherAsks → Result Found NoMemory → BerthTold → BerthTold → Type 0
ReportsLooks asks (Ok f) old new =
    (g : Gathered) × (f ≡ found_as g) × MakesGather asks (Ok g) old new
ReportsLooks asks (Err e) old new = MakesGather asks (Err e) old new

-- a file for each output, or one of the outputs
abbrev pub FoundFits : ℕ → Result Found NoMemory → Type 0
FoundFits n (Ok (found.Files files)) = length files ≡ n
FoundFits n (Ok (found.Missing k)) = k < n
FoundFits n (Ok (found.Exit code)) = ⊥
FoundFits n (Ok found.RoomFault) = Unit {0}
FoundFits n (Ok found.Refused) = ⊥
FoundFits n (Err e) = Unit {0}
