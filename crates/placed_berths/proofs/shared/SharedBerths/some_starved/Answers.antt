use Rattle.std.proofs.Common.{ap, is_some, ◌∙◌}
use Rattle.placed_berths.specs.Basis.{shared_by}
use Rattle.placed_berths.proofs.Searches.{none_waits}
use Rattle.placed_berths.proofs.shared.SharedBerths.some_starved.Goals as goal

pub returns-in-None : goal.returns-in-None
returns-in-None c =
    let s = c.args.state.now in
    c.is_some.ensures ∙ ap is_some c.first_starved.ensures
    ∙ none_waits (shared_by c.args.self.now s.plan) s c.args.pool.now c.args.delay.now c.in-None.is
