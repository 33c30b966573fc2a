-- What is done outside for an order, before it is reported.
use Rattle.std.specs.Prelude.{◌≡◌, ◌⊎◌, ◌<◌, ℕ, ℤ, List, [], ◌∷◌, ◌++◌, length, Result, Ok, Err}
use Rattle.plain_values.specs.declared.no_memory.NoMemory.{NoMemory}
use Rattle.run_plan.specs.declared.plan.Speech.{Speech}
use Rattle.exec_journal.specs.declared.attempt.Attempt.{Attempt}
use Rattle.exec_journal.specs.declared.call.Call.{Call}
use Rattle.exec_journal.specs.declared.call.Written.{Written}
use Rattle.exec_journal.specs.declared.call.Found.{Found}
use Rattle.exec_journal.specs.declared.call.Found.TheVariants as found
use Rattle.exec_journal.specs.declared.reply.Reply.{Reply}
use Rattle.outside.specs.Told.{BerthTold, FeedTold}
use Rattle.outside.specs.declared.berth.BerthCall.{BerthCall}
use Rattle.remote_messages.specs.declared.file.NamedFile.{NamedFile}
use Rattle.remote_messages.specs.declared.work.WorkAction.{WorkAction}
use Rattle.sandbox_rooms.specs.Calls.{Asked, Cut, Runs, Made}
use Rattle.request_frames.specs.declared.frames.Due.{Due}
use Rattle.request_frames.specs.Frames.{cancel_due}
use Rattle.berth_acts.specs.Acts.{GivenBy, Gave, RoomFailed, FeedFailed}
use Rattle.core_contract.specs.Moves.{History}
use Rattle.run_values.specs.Settings.{Means, speaks_remote}
use Rattle.proxy_words.specs.Deeds.{Deed, AreInputs, looks_of, looks_from, lacks, SentAs, FoundIn, CutBy, send_asks, due_for, look_asks}
use Rattle.proxy_words.specs.Told.{AreTold}

-- what was called and given, by what is reported; where memory ran out, nothing failed
abbrev pub WriteDone : List Asked → Due → Result Written NoMemory → List BerthCall → List ℕ → Type 0
WriteDone asks due (Ok how) calls given = SentAs asks due how calls given
WriteDone asks due (Err e) calls given = Runs Cut asks calls × (given ≡ [])

abbrev pub Writes : List Asked → Due → Result Written NoMemory → BerthTold → BerthTold → FeedTold
    → FeedTold → Type 0
Writes asks due result old new before after =
    (calls : List BerthCall) × (given : List ℕ) × WriteDone asks due result calls given
    × Made calls (RoomFailed result) old new × Gave given (FeedFailed result) before after

-- the request of the action with its inputs, by what is reported
abbrev pub SendDone : Means → Attempt → ℤ → WorkAction → Result Written NoMemory → Deed → Type 0
SendDone means t n action (Ok how) d =
    (inputs : List NamedFile) × AreInputs action.inputs inputs
    × (d.looks ≡ looks_of action.inputs inputs)
    × SentAs (send_asks means t n action inputs) (due_for means t n action inputs) how d.calls d.given
SendDone means t n action (Err e) d = (d.given ≡ []) × ((d.calls ≡ [])
    ⊎ ((inputs : List NamedFile) × AreInputs action.inputs inputs
    × Runs Cut (send_asks means t n action inputs) d.calls))

-- it was done by the line's feed
pub record SendActs (means : Means) (t : Attempt) (rule : History → ℕ → Call → Reply) (lane : ℕ) (line : ℕ) (n : ℤ)
    (action : WorkAction) (result : Result Written NoMemory) (seen : History)
    (old new : BerthTold) (before after : FeedTold) : Type 0 where
  pub deed : Deed
  pub on_line : deed.line ≡ line
  pub done : SendDone means t n action result deed
  pub told : AreTold rule lane seen deed.looks
  pub berth : Made deed.calls (RoomFailed result) old new
  pub feed : Gave deed.given (FeedFailed result) before after

-- the bytes of a Cancel
abbrev pub CancelDone : Speech → ℤ → Result Written NoMemory → List ℕ → Type 0
CancelDone speech n (Ok how) given = GivenBy (cancel_due speech n) how given
CancelDone speech n (Err e) given = given ≡ []

abbrev pub CancelActs : Speech → ℤ → Result Written NoMemory → FeedTold → FeedTold → Type 0
CancelActs speech n result before after =
    (given : List ℕ) × CancelDone speech n result given × Gave given (FeedFailed result) before after

-- ---- a Gather

abbrev pub IsRoomFault : Result Found NoMemory → Type 0
IsRoomFault (Ok found.RoomFault) = Unit {0}
IsRoomFault (Ok (found.Files fs)) = ⊥
IsRoomFault (Ok (found.Missing k)) = ⊥
IsRoomFault (Ok (found.Exit x)) = ⊥
IsRoomFault (Ok found.Refused) = ⊥
IsRoomFault (Err e) = ⊥

abbrev pub GatherDone : Means → Attempt → ℕ → ℤ → WorkAction → Result Found NoMemory → Deed → Type 0
GatherDone means t l n action (Ok f) d =
    FoundIn (speaks_remote means.speech) (look_asks means t n action) (length action.outputs) l n f d
GatherDone means t l n action (Err e) d =
    (d.calls ≡ []) ⊎ CutBy (look_asks means t n action) d.calls

pub record GatherActs (means : Means) (t : Attempt) (rule : History → ℕ → Call → Reply) (lane : ℕ) (line : ℕ) (n : ℤ)
    (action : WorkAction) (result : Result Found NoMemory) (seen : History) (old new : BerthTold)
    : Type 0 where
  pub deed : Deed
  pub nothing_given : deed.given ≡ []
  pub done : GatherDone means t line n action result deed
  pub told : AreTold rule lane seen deed.looks
  pub berth : Made deed.calls (IsRoomFault result) old new

-- what the Looks at so many outputs of an executor's answer gave
abbrev pub IsAnswered : (History → ℕ → Call → Reply) → ℕ → ℕ → ℤ → ℕ → Found → History → Type 0
IsAnswered rule lane l n outputs (found.Files fs) seen =
    (length fs ≡ outputs) × AreTold rule lane seen (looks_from l n 0 fs)
IsAnswered rule lane l n outputs (found.Missing k) seen = (k < outputs)
    × ((fs : List (List ℕ)) × (length fs ≡ k)
    × AreTold rule lane seen (looks_from l n 0 fs ++ lacks l n k ∷ []))
IsAnswered rule lane l n outputs (found.Exit x) seen = ⊥
IsAnswered rule lane l n outputs found.RoomFault seen = ⊥
IsAnswered rule lane l n outputs found.Refused seen = ⊥
