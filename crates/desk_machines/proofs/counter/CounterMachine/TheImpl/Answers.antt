use Rattle.std.proofs.Common.{sym, subst, ℕ}
use Rattle.desk_machines.specs.CounterSums.{IsSum, stays}
use Rattle.seat_desk.specs.History.{entry, after}
use Rattle.desk_machines.proofs.CounterTotals.{turn_reply, turn_stands}
use Rattle.desk_machines.proofs.counter.CounterMachine.TheImpl.Goals as goal

pub turn-asks : goal.turn-asks
turn-asks _ _ _ _ c = c.requires.1.2

pub turn-tells : goal.turn-tells
turn-tells _ _ _ _ c = record {
  basis = c.ensures.basis;
  reply = λ h s g. turn_reply _ _ h c.args.lane c.args.call.now c.result.0 _ s c.ensures.turn;
  stands = λ h s g. subst (λ (q : ℕ). IsSum q c.new.self.now.sum (after (λ e. stays e.call e.reply) h (entry c.args.lane c.args.call.now c.result.0))) (sym c.ensures.basis) (turn_stands _ _ h c.args.lane c.args.call.now c.result.0 _ s c.ensures.turn);
  good = λ h s g. tt;
}
