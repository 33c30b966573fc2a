-- In which order a list and its files are read, and what that leads to.
use Rattle.std.specs.Prelude.{◌≡◌, ℕ, List, [], ◌∷◌, map, Result, Ok, Err}
use Rattle.action_list.specs.Lists.{list_of}
use Rattle.list_actions.specs.Made.{maker_of}
use Rattle.list_actions.specs.declared.faults.ListFault.{ListFault}
use Rattle.list_actions.specs.declared.types.ActionList.{ActionList}
use Rattle.list_actions.specs.declared.types.ListAction.{ListAction}
use Rattle.build_report.specs.declared.fault.RunFault.{RunFault}
use Rattle.build_report.specs.declared.fault.RunFault.TheVariants as fault
use Rattle.outside.specs.declared.answers.Read.{Read}
use Rattle.outside.specs.declared.answers.Read.TheVariants as read
use Rattle.outside.specs.declared.floor.FloorRead.{FloorRead}
use Rattle.outside.specs.declared.floor.SourceFile.{SourceFile}
use Rattle.remote_messages.specs.declared.work.Work.{Work}
use Rattle.run_loading.specs.Reads.{EndsSo, OnLost}
use Rattle.run_loading.specs.Wanted.{AllFound, FirstLost, wanted}
use Rattle.run_loading.specs.Works.{Works, due_work}
use Rattle.run_loading.specs.declared.loading.Loaded.{Loaded}

-- ---- the list

-- the bytes have a first fault, or are a list, which is gone on by
abbrev pub BytesRead : {T : Type 0} → (ActionList → List FloorRead → Result T RunFault → Type 0)
    → Result ActionList ListFault → List FloorRead → Result T RunFault → Type 0
BytesRead Then (Err f) rest result = EndsSo (Err (fault.List f)) rest result
BytesRead Then (Ok list) rest result = Then list rest result

-- what the answer at the list's path leads to, and the reads behind it
abbrev pub AfterList : {T : Type 0} → (ActionList → List FloorRead → Result T RunFault → Type 0) → ℕ
    → List ℕ → Read → List FloorRead → Result T RunFault → Type 0
AfterList Then keys path read.Absent rest result = EndsSo (Err (fault.Absent path)) rest result
AfterList Then keys path read.Failed rest result = EndsSo (Err (fault.FloorFailed path)) rest result
AfterList Then keys path (read.Found bytes) rest result =
    BytesRead Then (list_of keys bytes) rest result

-- The list at this path is read first. It may have so many worker keys.
abbrev pub ListFirst : {T : Type 0} → (ActionList → List FloorRead → Result T RunFault → Type 0) → ℕ
    → List ℕ → List FloorRead → Result T RunFault → Type 0
ListFirst Then keys path [] result = ⊥
ListFirst Then keys path (first ∷ rest) result =
    (first.path ≡ path) × AfterList Then keys path first.answer rest result

-- the list alone
abbrev pub IsList : ActionList → List FloorRead → Result ActionList RunFault → Type 0
IsList list rest result = EndsSo (Ok list) rest result

-- ---- its work

-- what the reads of the actions' paths lead to, where nothing is made of the files
abbrev pub WorkOf : List ListAction → List SourceFile → Result Work RunFault → Type 0
WorkOf xs files result = Works (map (due_work (maker_of xs) files) xs) result

-- The reads of what the actions want, up to the first that isn't answered Found, and what they lead
-- to: that read's fault; or where all were found, the work, or the fault of the first action whose
-- words can't be expanded.
abbrev pub WorkRead : List ListAction → List FloorRead → Result Work RunFault → Type 0
WorkRead xs reads (Ok work) =
    (files : List SourceFile) × AllFound (wanted xs) reads files × WorkOf xs files (Ok work)
WorkRead xs reads (Err (fault.Flags a f)) = (files : List SourceFile)
    × AllFound (wanted xs) reads files × WorkOf xs files (Err (fault.Flags a f))
WorkRead xs reads (Err f) = OnLost f (FirstLost (wanted xs) reads)

-- the list with its work
abbrev pub Loads : ActionList → List FloorRead → Result Loaded RunFault → Type 0
Loads list rest (Ok loaded) = (loaded.list ≡ list) × WorkRead list.actions rest (Ok loaded.work)
Loads list rest (Err f) = WorkRead list.actions rest (Err f)
