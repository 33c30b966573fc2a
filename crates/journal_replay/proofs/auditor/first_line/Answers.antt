use Rattle.journal_replay.proofs.Steps.{no_basis, unsound_line}
use Rattle.journal_replay.proofs.auditor.first_line.Goals as goal

pub begun-requires : goal.begun-requires
begun-requires g c = let k = rw c.in-Going.is at c.in_ok-start.ensures in k.plan_sound

pub returns-in-Misread : goal.returns-in-Misread
returns-in-Misread g c = let k = rw c.in-Misread.is at c.in_ok-start.ensures in no_basis g.C.Replayed.rules.spelled c.args.line.now k

pub returns-in-Unsound : goal.returns-in-Unsound
returns-in-Unsound g c = let k = rw c.in-Unsound.is at c.in_ok-start.ensures in unsound_line g.C.Replayed.rules c.args.line.now k

pub returns-in-Going : goal.returns-in-Going
returns-in-Going g c = let k = rw c.in-Going.is at c.in_ok-start.ensures in c.begun.ensures c.args.line.now k
