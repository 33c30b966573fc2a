-- What a step read, and what the reads led to.
use Rattle.std.specs.Prelude.{◌≡◌, ℕ, IfSome, List, [], Option, Some, None, Result, Ok, Err}
use Rattle.std.specs.List.{All}
use Rattle.outside.specs.Lists.{Adds}
use Rattle.outside.specs.Told.{FloorTold}
use Rattle.outside.specs.Floor.{MayAnswer, file_at, one_read}
use Rattle.outside.specs.declared.answers.Read.{Read}
use Rattle.outside.specs.declared.answers.Read.TheVariants as read
use Rattle.outside.specs.declared.floor.FloorRead.{FloorRead}
use Rattle.outside.specs.declared.floor.SourceFile.{SourceFile}
use Rattle.build_report.specs.declared.fault.RunFault.{RunFault}
use Rattle.build_report.specs.declared.fault.RunFault.TheVariants as fault
use Rattle.build_report.specs.declared.fault.Stage.TheVariants as stage

-- each answer is what the floor's files give, where it tells them
abbrev pub AreOfFiles : Option (List SourceFile) → List FloorRead → Type 0
AreOfFiles told reads =
    IfSome told (λ files. All (λ r. MayAnswer (file_at files r.path) r.answer) reads)

-- some reads of this floor, which it has logged where it tells
abbrev pub Reads : FloorTold → FloorTold → (List FloorRead → Type 0) → Type 0
Reads before after P = (reads : List FloorRead) × Adds reads before.log after.log
    × AreOfFiles before.files reads × P reads

-- the fault of a step, or none
abbrev pub end_of : {T : Type 0} → Result T RunFault → Option RunFault
end_of (Ok x) = None
end_of (Err f) = Some f

-- Lack of memory alone is free, and it comes before the lanes.
abbrev pub UnlessBefore : Option RunFault → Type 0 → Type 0
UnlessBefore (Some (fault.NoMemory when)) P = when ≡ stage.Before
UnlessBefore end P = P

-- The floor's reads led to this result, or memory ran out.
abbrev pub Leads : {T : Type 0} → FloorTold → FloorTold → Result T RunFault
    → (List FloorRead → Result T RunFault → Type 0) → Type 0
Leads before after result P =
    UnlessBefore (end_of result) (Reads before after (λ reads. P reads result))

-- the floor failed
abbrev pub IsFloorFailed : Option RunFault → Type 0
IsFloorFailed (Some (fault.FloorFailed path)) = Unit {0}
IsFloorFailed end = ⊥

-- The fault is that of a read that wasn't answered Found: of this path, with this answer.
abbrev pub OnLost : RunFault → (List ℕ → Read → Type 0) → Type 0
OnLost (fault.Absent path) P = P path read.Absent
OnLost (fault.FloorFailed path) P = P path read.Failed
OnLost f P = ⊥

-- nothing more is read, and this is the result
abbrev pub EndsSo : {T : Type 0} → Result T RunFault → List FloorRead → Result T RunFault → Type 0
EndsSo due reads result = (reads ≡ []) × (result ≡ due)

-- one read of this path, with this answer, led to the fault
abbrev pub OneLost : List ℕ → List FloorRead → List ℕ → Read → Type 0
OneLost path reads at answer = (at ≡ path) × (reads ≡ one_read path answer)

-- the one read of this path, and its bytes or its fault
abbrev pub OneRead : List ℕ → List FloorRead → Result (List ℕ) RunFault → Type 0
OneRead path reads (Ok bytes) = reads ≡ one_read path (read.Found bytes)
OneRead path reads (Err f) = OnLost f (OneLost path reads)
