-- A report that is put although its run ends with another fault.
use Rattle.std.proofs.Common.{◌≡◌, ℕ, List, Option, Some, None, inl, inr, refl}
use Rattle.build_report.specs.declared.fault.RunFault.{RunFault}
use Rattle.build_report.specs.declared.fault.RunFault.TheVariants as fault
use Rattle.build_report.specs.declared.fault.Stage.TheVariants as stage
use Rattle.outside.specs.Causes.{Counts}
use Rattle.outside.specs.Told.{SinkTold}
use Rattle.worker_run.specs.Ends.{IsReportEnd, MayPut, Puts}

pub may_put : (f : Option RunFault) (report : List ℕ) (old new : SinkTold) → IsReportEnd f
    → Puts f report old new → Counts old.faults new.faults (f ≡ Some fault.SinkFailed)
    → MayPut report old new
may_put None report old new kind put counts = inl put
may_put (Some fault.SinkFailed) report old new kind put counts =
    inr (inl (put, counts.rose refl))
may_put (Some (fault.NoMemory stage.After)) report old new kind put counts = inr (inr put)
may_put (Some (fault.NoMemory stage.Before)) report old new kind put counts = absurd (cc)
may_put (Some (fault.NoMemory stage.During)) report old new kind put counts = absurd (cc)
may_put (Some fault.Words) report old new kind put counts = absurd kind
may_put (Some (fault.List x)) report old new kind put counts = absurd kind
may_put (Some (fault.Flags a x)) report old new kind put counts = absurd kind
may_put (Some (fault.Absent at)) report old new kind put counts = absurd kind
may_put (Some (fault.FloorFailed at)) report old new kind put counts = absurd kind
