use Rattle.std.proofs.Common.{ap, sym, subst, ◌∙◌, arith}
use Rattle.std.proofs.lemmas.List.{drop_all}
use Rattle.placed_berths.specs.Homes.{AreHomes, homes_from}
use Rattle.placed_berths.proofs.HomesNoted.{are_homes}
use Rattle.placed_berths.proofs.homes.homes_of.Goals as goal

pub returns : goal.returns
returns c =
    let pools = c.args.pools.now in
    let end = c.loop-place-test.false in
    subst (AreHomes pools)
    (sym c.loop-place.invariant
    ∙ ap (λ xs. homes_from xs c.loop-place.place c.loop-place.homes.items)
    (drop_all c.loop-place.place pools (omega (arith, end))))
    (are_homes c.args.groups pools c.requires)
