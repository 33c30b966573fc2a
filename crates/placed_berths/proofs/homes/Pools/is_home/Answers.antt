use Rattle.std.proofs.Common.{ap, ◌∙◌}
use Rattle.std.specs.Prelude.{slice_get}
use Rattle.placed_berths.specs.Homes.{is_home}
use Rattle.placed_berths.proofs.homes.Pools.is_home.Goals as goal

pub returns : goal.returns
returns c = λ pool at.
    c.is_noted.ensures
    ∙ ap (λ homes. is_home homes c.args.group c.args.place) c.as_slice.ensures.value
    ∙ c.self.invariant c.args.place c.args.group pool
    (ap (λ pools. slice_get pools c.args.place) c.self.view_is ∙ at)
