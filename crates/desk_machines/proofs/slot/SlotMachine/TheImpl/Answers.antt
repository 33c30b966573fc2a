use Rattle.std.proofs.Common.{◌∙◌, refl, inl, ap}
use Rattle.desk_machines.specs.Slots.{answer_to}
use Rattle.desk_machines.proofs.Slotted.{stands_after}
use Rattle.desk_machines.proofs.slot.SlotMachine.TheImpl.Goals as goal

pub turn-tells : goal.turn-tells
turn-tells _ _ _ _ c = record {
  basis = refl;
  reply = λ h s g. inl (c.ensures.answer ∙ ap (λ b. answer_to b c.args.call.now) s);
  stands = λ h s g. stands_after c.args.self.now.full c.new.self.now.full h c.args.lane c.args.call.now c.result.0 s c.ensures.full;
  good = λ h s g. tt;
}
