use Rattle.std.proofs.Common.{sym, ◌∙◌}
use Rattle.earliest_first.proofs.Resting.{is_busy}
use Rattle.earliest_first.proofs.is_busy.Goals as goal

pub returns-then-is_full : goal.returns-then-is_full
returns-then-is_full c = λ rests.
    is_busy c.args.state.now c.args.berth c.in-Some.line (sym c.last_line.ensures ∙ c.in-Some.is)
    (sym c.is_full.ensures ∙ c.if-is_full.true) (sym c.is_at_rest.ensures ∙ rests)
