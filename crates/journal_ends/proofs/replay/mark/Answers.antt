use Rattle.std.proofs.Common.{ℕ, Bool, true, Option, ap, sym, ◌∙◌}
use Rattle.list_lemmas.specs.Places.{update_if}
use Rattle.list_lemmas.proofs.Updates.{set-update, update_past}
use Rattle.journal_ends.proofs.replay.mark.Goals as goal

pub returns-then-at-flags : goal.returns-then-at-flags
returns-then-at-flags c =
    set-update (λ (_ : Bool). true) c.args.flags.now c.in-Some.number true c.if-at-flags.true
    ∙ sym (ap (λ (o : Option ℕ). update_if (λ (_ : Bool). true) c.args.flags.now o) c.in-Some.is)

pub returns-else-at-flags : goal.returns-else-at-flags
returns-else-at-flags c =
    update_past (λ (_ : Bool). true) c.args.flags.now c.in-Some.number c.if-at-flags.false
    ∙ sym (ap (λ (o : Option ℕ). update_if (λ (_ : Bool). true) c.args.flags.now o) c.in-Some.is)
