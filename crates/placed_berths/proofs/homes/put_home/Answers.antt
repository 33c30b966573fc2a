use Rattle.std.proofs.Common.{arith}
use Rattle.list_lemmas.proofs.Updates.{set-update, update_past}
use Rattle.placed_berths.proofs.homes.put_home.Goals as goal

pub returns-then-number-homes : goal.returns-then-number-homes
returns-then-number-homes c =
    let lt = c.if-number-homes.true in
    set-update (λ _. c.args.place) c.args.homes.now c.args.group 0 (omega (arith, lt))

pub returns-else-number-homes : goal.returns-else-number-homes
returns-else-number-homes c =
    let past = c.if-number-homes.false in
    update_past (λ _. c.args.place) c.args.homes.now c.args.group (omega (arith, past))
