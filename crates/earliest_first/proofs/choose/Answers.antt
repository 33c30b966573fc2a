use Rattle.std.proofs.Common.{sym}
use Rattle.core_tables.specs.Seats.{seat_at}
use Rattle.earliest_first.specs.Choices.{earliest_of}
use Rattle.earliest_first.proofs.Resting.{chosen_on_busy}
use Rattle.earliest_first.proofs.choose.Goals as goal

pub returns-then-is_busy : goal.returns-then-is_busy
returns-then-is_busy c =
    let s = c.args.state.now in
    sym (chosen_on_busy s c.args.berth (c.is_busy.ensures c.if-is_busy.true) (earliest_of s)
    (seat_at s.plan c.args.berth))
