use Rattle.std.proofs.Common.{ap, ◌∙◌, List}
use Rattle.std.proofs.Math.Facts.{to_z-of_z}
use Rattle.arrayvec.specs.ArrayVec.{ArrayVec}
use Rattle.core_tables.specs.declared.matches.Match.{Match}
use Rattle.core_state.specs.declared.state.State.{State}
use Rattle.core_state.specs.Machine.{with_end}
use Rattle.core_state.specs.Reports.{lost_from, spent_for}
use Rattle.core_state.proofs.state.State.unwritten.Goals as goal

abbrev with_matches : State → List (ArrayVec Match) → State
with_matches s ms = record s { matches = ms }

pub returns-clause-state : goal.returns-clause-state
returns-clause-state c =
    let made = ap (with_matches c.lose.new.self) c.spent.ensures in
    let lost = c.lose.ensures ∙ ap (λ n. lost_from c.args.self.now c.args.berth c.args.line n
    c.args.attempt) (to_z-of_z c.ranges.number) in
    c.end.ensures ∙ ap (λ q. with_end q c.args.attempt)
    (made ∙ ap (λ q. spent_for q c.args.attempt) lost)
