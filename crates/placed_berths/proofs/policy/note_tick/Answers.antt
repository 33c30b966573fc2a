use Rattle.std.proofs.Common.{Option, subst}
use Rattle.placed_berths.specs.Counts.{Facts}
use Rattle.placed_berths.specs.Stands.{DelayStands}
use Rattle.placed_berths.proofs.Noting.{tick_noted}
use Rattle.placed_berths.proofs.policy.note_tick.Goals as goal

pub returns-in-Some-clause-stands : goal.returns-in-Some-clause-stands
returns-in-Some-clause-stands c = λ p ticks seats j so st.
    tick_noted c.args.lane c.args.call.now c.args.reply.now _ _ c.args.state.now
    c.note.ensures.counted c.note.ensures.marked p ticks seats j
    (subst (λ (d : Option Facts). DelayStands p ticks d j) c.in-Some.is so) st
