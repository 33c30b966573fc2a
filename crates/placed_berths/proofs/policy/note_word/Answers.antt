use Rattle.std.proofs.Common.{subst}
use Rattle.placed_berths.specs.declared.policy.Berths.{Berths}
use Rattle.placed_berths.specs.Stands.{BerthsStand}
use Rattle.placed_berths.proofs.Noting.{pools_noted}
use Rattle.placed_berths.proofs.policy.note_word.Goals as goal

pub returns-in-Shared-clause-stands : goal.returns-in-Shared-clause-stands
returns-in-Shared-clause-stands c = λ p y ticks j so legal.
    pools_noted c.args.lane c.args.call.now c.args.reply.now _ _ c.note.ensures.stands p y ticks j
    (subst (λ (m : Berths). BerthsStand p y m j) c.in-Shared.is so) legal
