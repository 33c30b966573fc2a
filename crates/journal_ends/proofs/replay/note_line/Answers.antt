use Rattle.std.proofs.Common.{ℕ, Option, unwrap_or, set, ap, sym, ◌∙◌}
use Rattle.journal_ends.specs.Replay.{line_after}
use Rattle.list_lemmas.specs.Places.{update_if}
use Rattle.list_lemmas.proofs.Updates.{set-update, update_past}
use Rattle.journal_ends.proofs.replay.note_line.Goals as goal

pub returns-then-at-lines : goal.returns-then-at-lines
returns-then-at-lines c =
    let g = line_after c.args.late c.in-Some.line c.args.entry.now in
    ap (set c.args.lines.now c.in-Some.line) c.line_next.ensures
    ∙ set-update g c.args.lines.now c.in-Some.line _ c.if-at-lines.true
    ∙ sym (ap (λ (o : Option ℕ). update_if (line_after c.args.late (unwrap_or o 0) c.args.entry.now) c.args.lines.now o) c.in-Some.is)

pub returns-else-at-lines : goal.returns-else-at-lines
returns-else-at-lines c =
    update_past (line_after c.args.late c.in-Some.line c.args.entry.now) c.args.lines.now c.in-Some.line c.if-at-lines.false
    ∙ sym (ap (λ (o : Option ℕ). update_if (line_after c.args.late (unwrap_or o 0) c.args.entry.now) c.args.lines.now o) c.in-Some.is)
