use Rattle.std.proofs.Common.{◌∙◌, refl, inl}
use Rattle.desk_machines.proofs.AdderTotals.{adds_on, stands_after}
use Rattle.desk_machines.proofs.adder.AdderMachine.TheImpl.Goals as goal

pub turn-tells : goal.turn-tells
turn-tells _ _ _ _ c = record {
  basis = refl;
  reply = λ h s g. inl (c.ensures.0 ∙ (c.ensures.1 ∙ adds_on _ _ _ s.0));
  stands = λ h s g. stands_after _ h c.args.lane c.args.call.now c.result.0 _ s c.ensures.0 c.ensures.1;
  good = λ h s g. tt;
}
