use Rattle.std.proofs.Common.{arith}
use Rattle.work_queue.proofs.Naming.{names_hand, no_hand}
use Rattle.work_queue.proofs.signs.hand_of.Goals as goal

pub returns-then-waiting-gt0 : goal.returns-then-waiting-gt0
returns-then-waiting-gt0 c = names_hand c.args.waiting c.args.resting _ c.one_of.ensures

pub returns-else-waiting-gt0 : goal.returns-else-waiting-gt0
returns-else-waiting-gt0 c =
    let none = c.if-waiting-gt0.false in
    no_hand c.args.waiting c.args.resting (λ lt. omega (arith, none, lt))
