use Rattle.std.proofs.Common.{refl}
use Rattle.message_box.specs.States.{state_of}
use Rattle.message_box.proofs.Turning.{matches_after}
use Rattle.message_box.proofs.mailbox.MailboxMachine.TheImpl.Goals as goal

pub turn-tells : goal.turn-tells
turn-tells _ _ _ _ _ c = record {
  basis = refl;
  reply = λ h s g. (c.ensures.turns (state_of h) s g).0;
  stands = λ h s g. let t = c.ensures.turns (state_of h) s g in
      matches_after c.new.self.now h c.args.lane c.args.call.now c.result.0 t.0 t.1;
  good = λ h s g. (c.ensures.turns (state_of h) s g).2;
}
