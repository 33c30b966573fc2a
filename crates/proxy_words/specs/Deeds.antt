-- What a proxy lane has done for each of its entries.
use Rattle.std.specs.Prelude.{◌≡◌, ◌⊎◌, ℕ, ◌+◌, ◌==◌, ℤ, List, [], ◌∷◌, ◌++◌, length, map, slice_get, if◌then◌else◌, Bool, true, false, Option, Some, None, Ok}
use Rattle.plain_values.specs.declared.command.Command.{Command}
use Rattle.exec_journal.specs.declared.attempt.Attempt.{Attempt}
use Rattle.exec_journal.specs.Seated.{kind_for}
use Rattle.exec_journal.specs.declared.call.Call.{Call}
use Rattle.exec_journal.specs.declared.call.Call.TheVariants as call
use Rattle.exec_journal.specs.declared.call.Started.{Started}
use Rattle.exec_journal.specs.declared.call.Written.{Written}
use Rattle.exec_journal.specs.declared.call.Written.TheVariants as write
use Rattle.exec_journal.specs.declared.call.Wanted.{Wanted}
use Rattle.exec_journal.specs.declared.call.Wanted.TheVariants as wanted
use Rattle.exec_journal.specs.declared.call.Found.{Found}
use Rattle.exec_journal.specs.declared.call.Found.TheVariants as found
use Rattle.outside.specs.declared.answers.Io.TheVariants as io
use Rattle.outside.specs.declared.berth.BerthCall.{BerthCall}
use Rattle.outside.specs.declared.berth.BerthCall.TheVariants as berth
use Rattle.remote_messages.specs.declared.file.NamedFile.{NamedFile}
use Rattle.remote_messages.specs.declared.work.WorkAction.{WorkAction}
use Rattle.remote_messages.specs.declared.work.WorkInput.{WorkInput}
use Rattle.remote_messages.specs.declared.work.Origin.{Origin}
use Rattle.remote_messages.specs.declared.work.Origin.TheVariants as origin
use Rattle.sandbox_rooms.specs.declared.gathering.Gathered.{Gathered}
use Rattle.sandbox_rooms.specs.declared.room.Room.{Room}
use Rattle.sandbox_rooms.specs.Calls.{Asked, asked, Whole, Cut, Runs}
use Rattle.sandbox_rooms.specs.Rooms.{prepare_asks, GatherAsks, gathering, gathered_in, gather_end, Leaves}
use Rattle.remote_branch.specs.Jobs.{job_for}
use Rattle.request_frames.specs.declared.frames.Due.{Due}
use Rattle.request_frames.specs.declared.frames.Due.TheVariants as due
use Rattle.request_frames.specs.Requests.{room_for, IsFrom, request_for}
use Rattle.request_frames.specs.Frames.{send_due, cancel_due}
use Rattle.berth_acts.specs.Acts.{GivenBy, LaunchedBy, SentBy, found_as}
use Rattle.core_contract.specs.Moves.{History}
use Rattle.core_contract.specs.Duties.{Duty, Asks, Launches, Sends, Cancels, Gathers, Commits, Kills, Left, duty_then}
use Rattle.run_values.specs.Settings.{Means, command_for, speaks_remote}

-- a Look with what it was answered: the bytes of a file, or that there is none
pub record Looked : Type 0 where
  pub wanted : Wanted
  pub found : Option (List ℕ)

-- what was done since the lane's previous entry
pub record Deed : Type 0 where
  -- the line to whose feed it gave bytes
  pub line : ℕ
  pub looks : List Looked
  -- the calls on the berth
  pub calls : List BerthCall
  pub given : List ℕ

-- ---- the inputs of a request

abbrev pub look_at : Origin → List ℕ → List Looked
look_at (origin.Source bytes) content = []
look_at (origin.Made a o) content =
    record { wanted = wanted.Made a o; found = Some content } ∷ []

-- a file for each input, in order
abbrev pub AreInputs : List WorkInput → List NamedFile → Type 0
AreInputs [] files = files ≡ []
AreInputs (x ∷ xs) [] = ⊥
AreInputs (x ∷ xs) (f ∷ fs) = (f.path ≡ x.path) × IsFrom x.origin f.content × AreInputs xs fs

-- the Looks that told them
abbrev pub looks_of : List WorkInput → List NamedFile → List Looked
looks_of [] files = []
looks_of (x ∷ xs) [] = []
looks_of (x ∷ xs) (f ∷ fs) = look_at x.origin f.content ++ looks_of xs fs

-- ---- the files of an answer that holds them

-- the Looks at its outputs from the k-th on, which told these files
abbrev pub looks_from : ℕ → ℤ → ℕ → List (List ℕ) → List Looked
looks_from l n k [] = []
looks_from l n k (file ∷ files) =
    record { wanted = wanted.Answered l n k; found = Some file } ∷ looks_from l n (k + 1) files

abbrev pub lacks : ℕ → ℤ → ℕ → Looked
lacks l n k = record { wanted = wanted.Answered l n k; found = None }

-- it looked at nothing, called nothing and gave nothing
abbrev pub IsNothing : Deed → Type 0
IsNothing d = (d.looks ≡ []) × (d.calls ≡ []) × (d.given ≡ [])

-- it ended the line's child, and did nothing else
abbrev pub IsEnd : ℕ → Deed → Type 0
IsEnd l d = (d.looks ≡ []) × (d.calls ≡ berth.End l ∷ []) × (d.given ≡ [])

-- the bytes and the calls of a Send, by what is due and by what is reported
abbrev pub SentAs : List Asked → Due → Written → List BerthCall → List ℕ → Type 0
SentAs asks (due.Frame frame) how calls given = SentBy asks frame how calls given
SentAs asks due.TooLarge write.TooLarge calls given = (calls ≡ []) × (given ≡ [])
SentAs asks due.TooLarge how calls given = ⊥

-- What is reported is what the looks in the room gave. Behind looks that found all, the folder of a
-- request of its own is removed.
abbrev pub FoundBy : GatherAsks → Found → List BerthCall → Type 0
FoundBy asks f calls =
    (g : Gathered) × (looks : List BerthCall) × (last : List BerthCall)
    × (f ≡ found_as g) × (calls ≡ looks ++ last) × Runs (gather_end (Ok g)) asks.looks looks
    × (g ≡ gathered_in looks) × Leaves asks.leaves (Ok g) last

-- Memory ran out at a look, or behind all that was called.
abbrev pub CutBy : GatherAsks → List BerthCall → Type 0
CutBy asks calls = Runs Cut asks.looks calls
    ⊎ ((looks : List BerthCall) × (last : List BerthCall) × (calls ≡ looks ++ last)
    × Runs Whole asks.looks looks × (map asked last ≡ asks.leaves))

-- A local answer's outputs are looked at in the room, those of an executor's answer are in it. The
-- first that isn't there is missing.
abbrev pub FoundIn : Bool → GatherAsks → ℕ → ℕ → ℤ → Found → Deed → Type 0
FoundIn remote asks outputs l n (found.Exit x) d = IsNothing d
FoundIn remote asks outputs l n found.Refused d = IsNothing d
FoundIn true asks outputs l n (found.Files fs) d =
    (d.calls ≡ []) × (length fs ≡ outputs) × (d.looks ≡ looks_from l n 0 fs)
FoundIn true asks outputs l n (found.Missing k) d =
    (d.calls ≡ []) × ((fs : List (List ℕ)) × (length fs ≡ k)
    × (d.looks ≡ looks_from l n 0 fs ++ lacks l n k ∷ []))
FoundIn true asks outputs l n found.RoomFault d = ⊥
FoundIn false asks outputs l n f d = (d.looks ≡ []) × FoundBy asks f d.calls

module _ (means : Means) (t : Attempt) where
  -- the room of the attempt's request with this number, by the kind of its group
  abbrev pub room_at : ℤ → Room
  room_at n = room_for (kind_for means.settings.plan.now t) n

  -- what is called on the berth for a Send: nothing for the executor
  abbrev pub send_asks : ℤ → WorkAction → List NamedFile → List Asked
  send_asks n action inputs =
      if speaks_remote means.speech then [] else prepare_asks (room_at n) action.outputs inputs

  abbrev pub due_for : ℤ → WorkAction → List NamedFile → Due
  due_for n action inputs =
      send_due means.speech (request_for n action inputs means.settings.verbose (room_at n))
      (job_for n action inputs)

  abbrev pub look_asks : ℤ → WorkAction → GatherAsks
  look_asks n action = gathering (room_at n) action.outputs

  -- ---- what was done for a report

  -- the command of its group was started
  pub record IsLaunch (l : ℕ) (how : Started) (d : Deed) : Type 0 where
    pub command : Command
    pub of_group : command_for means.settings t ≡ Some command
    pub nothing_looked : d.looks ≡ []
    pub nothing_given : d.given ≡ []
    pub launched : LaunchedBy l command how d.calls

  -- the request of its action, with the bytes of its inputs
  pub record IsSend (l : ℕ) (n : ℤ) (how : Written) (d : Deed) : Type 0 where
    pub action : WorkAction
    pub inputs : List NamedFile
    pub of_action : slice_get means.actions t.action ≡ Some action
    pub of_inputs : AreInputs action.inputs inputs
    pub looked : d.looks ≡ looks_of action.inputs inputs
    pub on_line : d.line ≡ l
    pub sent : SentAs (send_asks n action inputs) (due_for n action inputs) how d.calls d.given

  pub record IsGather (l : ℕ) (n : ℤ) (f : Found) (d : Deed) : Type 0 where
    pub action : WorkAction
    pub of_action : slice_get means.actions t.action ≡ Some action
    pub nothing_given : d.given ≡ []
    pub looked : FoundIn (speaks_remote means.speech) (look_asks n action)
        (length action.outputs) l n f d

  -- ---- what was done where memory ran out: what was called went well, and nothing was given

  -- its inputs may not all have been there yet
  abbrev pub IsCutSend : ℤ → List BerthCall → Type 0
  IsCutSend n calls = (calls ≡ [])
      ⊎ ((action : WorkAction) × (inputs : List NamedFile)
      × (slice_get means.actions t.action ≡ Some action)
      × AreInputs action.inputs inputs × Runs Cut (send_asks n action inputs) calls)

  abbrev pub IsCutGather : ℤ → List BerthCall → Type 0
  IsCutGather n calls = (calls ≡ [])
      ⊎ ((action : WorkAction) × (slice_get means.actions t.action ≡ Some action)
      × CutBy (look_asks n action) calls)

module _ (means : Means) where
  abbrev pub IsCancel : ℕ → ℤ → Written → Deed → Type 0
  IsCancel l n how d =
      (d.looks ≡ []) × (d.calls ≡ []) × (d.line ≡ l)
      × GivenBy (cancel_due means.speech n) how d.given

  -- What was done for an entry, by what the lane owed. No other entry is made.
  abbrev pub DeedOf : Duty → Call → Deed → Type 0
  DeedOf Asks call.Ask d = IsNothing d
  DeedOf (Launches l t) (call.Launched k how) d = IsLaunch means t l how d
  DeedOf (Sends l n t) (call.Wrote k m how) d = IsSend means t l n how d
  DeedOf (Cancels l n) (call.Wrote k m how) d = IsCancel l n how d
  DeedOf (Gathers l n t exit refused) (call.Claim a b u f) d = IsGather means t l n f d
  DeedOf (Commits a b fs) (call.Committed c e how) d = IsNothing d
  DeedOf (Kills l) (call.Killed k) d = IsEnd l d
  DeedOf _ _ d = ⊥

  -- the same for the lane's entries one after the other
  abbrev pub Acts : Duty → History → List Deed → Type 0
  Acts s [] ds = ds ≡ []
  Acts s (e ∷ es) [] = ⊥
  Acts s (e ∷ es) (d ∷ ds) = DeedOf s e.call d × Acts (duty_then s e) es ds

  -- ---- what was done where memory ran out

  abbrev pub CutsCalls : Duty → List BerthCall → Type 0
  CutsCalls Asks calls = calls ≡ []
  CutsCalls (Launches l t) calls = (calls ≡ []) ⊎ (calls ≡ berth.Clear [] io.Done ∷ [])
  CutsCalls (Sends l n t) calls = IsCutSend means t n calls
  CutsCalls (Cancels l n) calls = calls ≡ []
  CutsCalls (Gathers l n t exit refused) calls = IsCutGather means t n calls
  CutsCalls (Commits a b fs) calls = ⊥
  CutsCalls (Kills l) calls = calls ≡ berth.End l ∷ []
  CutsCalls Left calls = ⊥

  abbrev pub IsCut : Duty → Deed → Type 0
  IsCut s d = (d.given ≡ []) × CutsCalls s d.calls

-- ---- where a lane halts

-- the same deed, and behind it the end of the line
abbrev pub with_end : ℕ → Deed → Deed
with_end l d = record {
  line = d.line;
  looks = d.looks;
  calls = d.calls ++ berth.End l ∷ [];
  given = d.given;
}

abbrev pub with_ends : List ℕ → Deed → Deed
with_ends [] d = d
with_ends (l ∷ ls) d = with_ends ls (with_end l d)

-- all calls on the berth
abbrev pub calls_of : List Deed → List BerthCall
calls_of [] = []
calls_of (d ∷ ds) = d.calls ++ calls_of ds

-- what a deed gave to the feed of a line
abbrev pub given_by : ℕ → Deed → List ℕ
given_by l d = if d.line == l then d.given else []

-- all bytes that it was given
abbrev pub given_to : ℕ → List Deed → List ℕ
given_to l [] = []
given_to l (d ∷ ds) = given_by l d ++ given_to l ds
