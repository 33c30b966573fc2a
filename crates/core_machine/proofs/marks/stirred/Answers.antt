use Rattle.std.proofs.Common.{arith}
use Rattle.core_machine.proofs.Marking.{stirred_all, stirred_but_one}
use Rattle.core_machine.proofs.marks.stirred.Goals.{else-first-caller-via-then-first-caller+else-caller-first-lt128, else-first-caller-via-else-first-caller}
use Rattle.core_machine.proofs.marks.stirred.Goals as goal

pub returns-then-caller-first-lt128 : goal.returns-then-caller-first-lt128
returns-then-caller-first-lt128 c = λ news count few m.
    stirred_but_one c.args.now c.args.before c.args.first c.args.caller c.ranges.before.fits news
    count few m c.if-first-caller.true c.if-caller-first-lt128.true

pub returns-else-first-caller : goal.returns-else-first-caller
returns-else-first-caller c = λ news count few m.
    stirred_all c.args.now c.args.before c.args.first c.args.caller c.ranges.before.fits news
    count few m (elim c.else-first-caller.branch [
      | else-first-caller-via-then-first-caller+else-caller-first-lt128 w ↦
          (let far = w.if-caller-first-lt128.false in λ k low same. omega (arith, far, low, same))
      | else-first-caller-via-else-first-caller w ↦
          (let before = w.if-first-caller.false in λ k low same. omega (arith, before, low, same))
    ])
