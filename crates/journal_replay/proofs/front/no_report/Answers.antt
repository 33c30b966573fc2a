use Rattle.std.proofs.Common.{◌<◌, length, arith}
use Rattle.journal_replay.proofs.Stages.{bad_from_first}
use Rattle.journal_replay.proofs.front.no_report.Goals as goal

pub returns-else-number-eq1 : goal.returns-else-number-eq1
returns-else-number-eq1 g c = λ ls each number.
    let other = c.if-number-eq1.false in
    let some : 0 < length ls = omega arith in
    bad_from_first g.C.Replayed.rules.spelled ls c.args.line.now each some
