use Rattle.std.proofs.Common.{◌<◌, arith}
use Rattle.work_queue.proofs.Naming.{rests_set, rests_clear}
use Rattle.work_queue.proofs.signs.Signs.note.Goals as goal

pub returns-then-is_idle-clause-rests : goal.returns-then-is_idle-clause-rests
returns-then-is_idle-clause-rests c =
    let high = c.if-lane-ge128.false in
    let low : c.args.lane < 128 = omega (arith, high) in
    rests_set c.args.self.now.resting c.args.lane low c.args.is_idle c.if-is_idle.true

pub returns-else-is_idle-clause-rests : goal.returns-else-is_idle-clause-rests
returns-else-is_idle-clause-rests c =
    let high = c.if-lane-ge128.false in
    let low : c.args.lane < 128 = omega (arith, high) in
    rests_clear c.args.self.now.resting c.args.lane low c.args.is_idle c.if-is_idle.false
