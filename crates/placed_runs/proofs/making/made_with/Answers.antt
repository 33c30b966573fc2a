-- The core goes by the basis, and the task fits its lanes.
use Rattle.placed_runs.proofs.Cores.{basis_eq, core_stands, is_ready}
use Rattle.placed_runs.proofs.making.made_with.Goals as goal

pub returns-clause-basis : goal.returns-clause-basis
returns-clause-basis c = rw (c.watch.ensures)
    (basis_eq c.args.placed c.requires.seating c.in_ok-core.core c.in_ok-core.ensures)

pub returns-clause-stands : goal.returns-clause-stands
returns-clause-stands c = rw (c.watch.ensures)
    (core_stands c.args.placed c.requires.seating c.in_ok-core.core c.in_ok-core.ensures)

pub returns-clause-ready : goal.returns-clause-ready
returns-clause-ready c = rw (c.is_some-ticks.ensures) (is_ready c.args.placed c.args.task c.requires.plan c.requires.seating c.requires.fits)
