use Rattle.std.proofs.Common.{is_some, ap}
use Rattle.journal_replay.proofs.Steps.{spelled_bad}
use Rattle.journal_replay.proofs.auditor.next_line.Goals as goal

pub returns-in-Err-Otherwise : goal.returns-in-Err-Otherwise
returns-in-Err-Otherwise g c = λ ls k number few.
    let none = rw c.in-Err-Otherwise.field-0-is at c.in-Err-Otherwise.ensures in
    spelled_bad g.C.Replayed.rules.spelled ls k.basis k.journal c.args.line.now c.args.number k.spelled (ap is_some none) number
