use Rattle.std.proofs.Common.{[]}
use Rattle.std.specs.Prelude.{IfOk}
use Rattle.placed_rules.specs.Placed.{placed_discipline}
use Rattle.spawn_core.specs.Stands.{StandsIn}
use Rattle.placed_berths.specs.declared.policy.PlacedBerths.{PlacedBerths}
use Rattle.placed_berths.specs.Stands.{StandsBy}
use Rattle.placed_berths.proofs.CoresBegun.{by_placed, core_begins}
use Rattle.placed_berths.proofs.cores.placed_core.Goals as goal

pub with_policy-requires-clause-begins : goal.with_policy-requires-clause-begins
with_policy-requires-clause-begins c =
    let m : PlacedBerths = record {
      seating = c.in_ok-seating.seating;
      delay = c.in_ok-delay.delay;
    } in
    core_begins c.args.placed m
    (record { seating = c.in_ok-seating.ensures; delay = c.in_ok-delay.ensures })

pub returns : goal.returns
returns c =
    let m : PlacedBerths = record {
      seating = c.in_ok-seating.seating;
      delay = c.in_ok-delay.delay;
    } in
    by_placed c.args.placed m
    (record { seating = c.in_ok-seating.ensures; delay = c.in_ok-delay.ensures }) c.requires.pools
    (λ x y. IfOk c.with_policy.result
    (λ k. StandsIn (placed_discipline x) (StandsBy y) k [])) c.with_policy.ensures
