use Rattle.message_box.specs.Sides.{state_at}
use Rattle.read_ahead.proofs.Ahead.{called_off}
use Rattle.read_ahead.proofs.lanes.call_off.Goals as goal

pub returns-clause-leaves : goal.returns-clause-leaves
returns-clause-leaves g c = λ out shop. called_off g.V.Service.framing g.V.Service.spells
    g.V.Service.answers (state_at c.args.caller.now.pass) (state_at c.leave.new.caller.pass)
    out shop c.requires.fresh c.leave.ensures.left
