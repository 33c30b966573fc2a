use Rattle.journal_reading.proofs.Ticks.{no_row, no_ticks, some_ticks}
use Rattle.journal_reading.proofs.placed.ticks_for.Goals as goal

pub returns-then-number-gt0 : goal.returns-then-number-gt0
returns-then-number-gt0 c = some_ticks c.args.seating.now c.args.number c.if-number-gt0.true

pub returns-in-Own : goal.returns-in-Own
returns-in-Own c = no_row c.args.seating.now c.args.number c.if-number-gt0.false c.in-Own.is

pub returns-in-Pools : goal.returns-in-Pools
returns-in-Pools c = no_ticks c.args.seating.now c.args.number _ _ c.if-number-gt0.false c.in-Pools.is
