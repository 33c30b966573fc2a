use Rattle.std.proofs.Common.{◌≡◌, false}
use Rattle.seat_desk.specs.Passes.{IsSamePass}
use Rattle.message_service.proofs.Turns.{Spanned}
use Rattle.message_box.specs.Sides.{state_at}
use Rattle.read_ahead.proofs.answering.work.Given as goal

-- What was taken was dealt with, but for what is to be done.
abbrev pub invariant-loop : goal.invariant-loop
invariant-loop g l = record {
  same : IsSamePass l.initial.caller.pass l.caller.pass;
  here : (state_at l.caller.pass).left ≡ false;
  dealt : Spanned g.V.Service.answers (state_at l.caller.pass).taken l.queue.items
      (g.O.Sink.told l.initial.out) (g.O.Sink.told l.out)
      (g.S.Shop.told l.initial.shop) (g.S.Shop.told l.shop);
}
