-- The lines of faults, and their statuses.
use Rattle.std.specs.Prelude.{ℕ, Option, Some, None, List, ◌++◌, codes, decimal}
use Rattle.list_actions.specs.declared.faults.ListFault.{ListFault}
use Rattle.list_actions.specs.declared.faults.ListFault.TheVariants as list
use Rattle.flag_files.specs.declared.expanding.FlagFault.{FlagFault}
use Rattle.flag_files.specs.declared.expanding.FlagFault.TheVariants as flag
use Rattle.build_report.specs.declared.fault.RunFault.{RunFault}
use Rattle.build_report.specs.declared.fault.RunFault.TheVariants as fault

abbrev pub list_name : ListFault → List ℕ
list_name (list.TooMany w n) = codes "TooMany"
list_name list.NotJson = codes "NotJson"
list_name (list.WrongKind a k) = codes "WrongKind"
list_name (list.MissingKey a k) = codes "MissingKey"
list_name (list.BadName a) = codes "BadName"
list_name (list.BadPath a p f) = codes "BadPath"
list_name (list.BadRequirement a) = codes "BadRequirement"
list_name (list.NoStrategy a) = codes "NoStrategy"
list_name (list.NoFlagFile a) = codes "NoFlagFile"
list_name (list.TwiceNamed a) = codes "TwiceNamed"
list_name (list.TwiceMade a p) = codes "TwiceMade"
list_name (list.MadeLater a p) = codes "MadeLater"

-- the action of the fault, where it is one's
abbrev pub list_action : ListFault → Option ℕ
list_action (list.TooMany w n) = None
list_action list.NotJson = None
list_action (list.WrongKind a k) = a
list_action (list.MissingKey a k) = a
list_action (list.BadName a) = Some a
list_action (list.BadPath a p f) = Some a
list_action (list.BadRequirement a) = Some a
list_action (list.NoStrategy a) = Some a
list_action (list.NoFlagFile a) = Some a
list_action (list.TwiceNamed a) = Some a
list_action (list.TwiceMade a p) = Some a
list_action (list.MadeLater a p) = Some a

abbrev pub list_text : List ℕ → Option ℕ → List ℕ
list_text name (Some a) =
    codes "worker_tool: list refused: " ++ (name ++ (codes " action " ++ decimal a))
list_text name None = codes "worker_tool: list refused: " ++ name

abbrev pub flag_name : FlagFault → List ℕ
flag_name (flag.NoSuchFile p) = codes "NoSuchFile"
flag_name (flag.TooDeep p) = codes "TooDeep"
flag_name (flag.NotText p) = codes "NotText"
flag_name flag.TooManyWords = codes "TooManyWords"
flag_name flag.NoMemory = codes "NoMemory"

abbrev pub flag_path : FlagFault → Option (List ℕ)
flag_path (flag.NoSuchFile p) = Some p
flag_path (flag.TooDeep p) = Some p
flag_path (flag.NotText p) = Some p
flag_path _ = None

abbrev pub flag_text : List ℕ → Option (List ℕ) → ℕ → List ℕ
flag_text name (Some path) a = codes "worker_tool: flag file refused: "
    ++ (name ++ (codes " " ++ (path ++ (codes " action " ++ decimal a))))
flag_text name None a =
    codes "worker_tool: flag file refused: " ++ (name ++ (codes " action " ++ decimal a))

abbrev pub fault_text : RunFault → List ℕ
fault_text fault.Words = codes "worker_tool: words are not accepted"
fault_text (fault.NoMemory stage) = codes "worker_tool: no memory"
fault_text (fault.List f) = list_text (list_name f) (list_action f)
fault_text (fault.Flags a f) = flag_text (flag_name f) (flag_path f) a
fault_text (fault.Absent path) = codes "worker_tool: not there: " ++ path
fault_text (fault.FloorFailed path) = codes "worker_tool: not read: " ++ path
fault_text fault.SinkFailed = codes "worker_tool: report not written"

abbrev pub fault_status : RunFault → ℕ
fault_status fault.Words = 2
fault_status (fault.NoMemory stage) = 3
fault_status (fault.List f) = 4
fault_status (fault.Flags a f) = 4
fault_status (fault.Absent path) = 5
fault_status (fault.FloorFailed path) = 5
fault_status fault.SinkFailed = 6
