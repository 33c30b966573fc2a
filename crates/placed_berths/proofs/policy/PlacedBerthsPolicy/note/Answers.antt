use Rattle.placed_rules.specs.Placed.{placed}
use Rattle.placed_berths.proofs.policy.PlacedBerthsPolicy.note.Goals as goal

pub returns-clause-basis : goal.returns-clause-basis
returns-clause-basis c = λ p i.
    placed p (c.note_word.ensures.basis i) (c.note_tick.ensures.basis i)

pub returns-clause-stands : goal.returns-clause-stands
returns-clause-stands c = λ b j own st. record {
  seating = c.note_word.ensures.stands b.plan b.seating b.ticks j own.seating st.legal;
  delay = c.note_tick.ensures.stands b.plan b.ticks _ j own.delay st.tables;
}
