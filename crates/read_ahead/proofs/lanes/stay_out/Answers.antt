use Rattle.message_box.specs.Sides.{state_at}
use Rattle.read_ahead.proofs.Ahead.{stays_out}
use Rattle.read_ahead.proofs.lanes.stay_out.Goals as goal

pub returns-clause-leaves : goal.returns-clause-leaves
returns-clause-leaves g c = λ input. stays_out g.V.Service.framing g.V.Service.spells
    (state_at c.args.caller.now.pass) (state_at c.await_leave.new.caller.pass) input
    c.requires.fresh c.await_leave.ensures.stands c.await_leave.ensures.left
