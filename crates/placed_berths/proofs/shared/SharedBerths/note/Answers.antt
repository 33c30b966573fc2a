use Rattle.std.proofs.Common.{refl, sym, ◌∙◌, ◌&&◌, cond, ◌/◌}
use Rattle.shared_laws.specs.Spoken.{moved}
use Rattle.placed_berths.proofs.WordsNoted.{silent, speaks, stands, unkept}
use Rattle.placed_berths.proofs.shared.SharedBerths.note.Goals.{else-is_word-via-then-is_word+else-is_kept, else-is_word-via-else-is_word}
use Rattle.placed_berths.proofs.shared.SharedBerths.note.Goals as goal

pub returns-then-is_kept-clause-stands : goal.returns-then-is_kept-clause-stands
returns-then-is_kept-clause-stands c = λ q ticks j own legal.
    let m = c.args.self.now in
    let word = sym c.is_word.ensures ∙ c.if-is_word.true in
    let kept = sym c.is_kept.ensures ∙ c.if-is_kept.true in
    let there = speaks q ticks m j own c.args.lane c.args.call.now c.args.reply.now legal word kept
    in stands q ticks m j own c.args.lane c.args.call.now c.args.reply.now legal _ refl refl
    (c.move_to_end.ensures there
    ∙ (λ i. cond (sym word i && sym kept i) (moved (c.args.lane / 2) m.spoken.items)
    m.spoken.items))

pub returns-else-is_word-clause-stands : goal.returns-else-is_word-clause-stands
returns-else-is_word-clause-stands c = λ q ticks j own legal.
    elim c.else-is_word.branch [
      | else-is_word-via-then-is_word+else-is_kept w ↦
          unkept q ticks c.args.self.now j own c.args.lane c.args.call.now c.args.reply.now legal
          (sym w.is_kept.ensures ∙ w.if-is_kept.false)
      | else-is_word-via-else-is_word w ↦
          silent q ticks c.args.self.now j own c.args.lane c.args.call.now c.args.reply.now legal
          (sym c.is_word.ensures ∙ w.if-is_word.false)
    ]
