use Rattle.std.proofs.Common.{◌∙◌, sym, subst, List}
use Rattle.json_framing.specs.Cutter.{form_of}
use Rattle.message_box.specs.Sides.{state_at}
use Rattle.read_ahead.specs.Reading.{HasRead}
use Rattle.read_ahead.proofs.Ahead.{said_still}
use Rattle.read_ahead.proofs.lanes.read_lane.Goals as goal

pub returns-clause-leaves : goal.returns-clause-leaves
returns-clause-leaves g c = record {
  left = c.await_leave.ensures.left;
  said = said_still c.read_all-pause.result (state_at c.say_end.new.caller.pass)
      (state_at c.await_leave.new.caller.pass) c.say_end.ensures.said c.await_leave.ensures.stands
      c.await_leave.ensures.left;
  read = subst (λ (ms : List g.row.V-Message.Denot). HasRead (form_of g.V.Service.framing)
      g.V.Service.spells c.read_all-pause.result ms (g.T.Tap.told c.args.input.now)
      (g.T.Tap.told c.read_all-pause.new.input))
      (sym (c.await_leave.ensures.stands.0 ∙ c.say_end.ensures.stands))
      c.read_all-pause.ensures.read;
}
