-- Why there is no task of the chosen strategies.
use Rattle.std.specs.Prelude.{Option, Some, None, Result, Ok, Err}
use Rattle.build_report.specs.declared.fault.RunFault.{RunFault}
use Rattle.build_report.specs.declared.fault.RunFault.TheVariants as fault
use Rattle.build_report.specs.declared.fault.Stage.TheVariants as stage
use Rattle.list_actions.specs.declared.faults.ListFault.TheVariants as list_fault
use Rattle.list_actions.specs.declared.faults.What.TheVariants as what
use Rattle.spawn_strategies.specs.declared.types.ChoiceFault.{ChoiceFault}
use Rattle.spawn_strategies.specs.declared.types.ChoiceFault.TheVariants as choice_fault
use Rattle.spawn_tasks.specs.declared.faults.NoSpawn.{NoSpawn}
use Rattle.spawn_tasks.specs.declared.faults.NoSpawn.TheVariants as no

-- Too many keys of the chosen strategies are told as those of a list are.
abbrev pub refused : ChoiceFault → NoSpawn
refused (choice_fault.NoneSupports action) = no.NoStrategy action
refused (choice_fault.TooManyKeys keys) =
    no.Fault (fault.List (list_fault.TooMany what.Keys keys))
refused choice_fault.NoMemory = no.Fault (fault.NoMemory stage.Before)

-- the fault of a step, or none; that no strategy supports an action is none
abbrev pub fault_of : {T : Type 0} → Result T NoSpawn → Option RunFault
fault_of (Ok x) = None
fault_of (Err (no.Fault f)) = Some f
fault_of (Err (no.NoStrategy action)) = None
