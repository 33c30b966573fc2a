use Rattle.std.proofs.Common.{ℕ, Option, unwrap_or, set, ap, sym, ◌∙◌}
use Rattle.journal_ends.specs.Successes.{chance_after}
use Rattle.list_lemmas.specs.Places.{update_if}
use Rattle.list_lemmas.proofs.Updates.{set-update, update_past}
use Rattle.journal_ends.proofs.successes.note_chance.Goals as goal

pub returns-then-at-chances : goal.returns-then-at-chances
returns-then-at-chances c =
    let g = chance_after c.in-Some.action c.args.entry.now in
    ap (set c.args.chances.now c.in-Some.action) c.after.ensures
    ∙ set-update g c.args.chances.now c.in-Some.action _ c.if-at-chances.true
    ∙ ap (λ (o : Option ℕ). update_if (chance_after (unwrap_or o 0) c.args.entry.now) c.args.chances.now o) (sym c.in-Some.is ∙ c.claimed_action.ensures)

pub returns-else-at-chances : goal.returns-else-at-chances
returns-else-at-chances c =
    update_past (chance_after c.in-Some.action c.args.entry.now) c.args.chances.now c.in-Some.action c.if-at-chances.false
    ∙ ap (λ (o : Option ℕ). update_if (chance_after (unwrap_or o 0) c.args.entry.now) c.args.chances.now o) (sym c.in-Some.is ∙ c.claimed_action.ensures)
