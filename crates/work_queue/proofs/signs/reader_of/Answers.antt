use Rattle.std.proofs.Common.{arith}
use Rattle.work_queue.proofs.Naming.{names_reader, no_reader}
use Rattle.work_queue.proofs.signs.reader_of.Goals as goal

pub returns-then-waiting-depth : goal.returns-then-waiting-depth
returns-then-waiting-depth c = names_reader c.args.waiting c.args.depth c.args.resting

pub returns-else-waiting-depth : goal.returns-else-waiting-depth
returns-else-waiting-depth c =
    let above = c.if-waiting-depth.false in
    no_reader c.args.waiting c.args.depth c.args.resting (λ lt. omega (arith, above, lt))
