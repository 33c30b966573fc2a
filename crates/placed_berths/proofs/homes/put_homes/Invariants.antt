use Rattle.std.proofs.Common.{◌≡◌, drop}
use Rattle.placed_berths.specs.Homes.{with_homes}
use Rattle.placed_berths.proofs.homes.put_homes.Given as goal

-- with the groups from here on
abbrev pub invariant-loop-group : goal.invariant-loop-group
invariant-loop-group l = with_homes l.place (drop l.group-index l.groups) l.homes
    ≡ with_homes l.place l.groups l.initial.homes
