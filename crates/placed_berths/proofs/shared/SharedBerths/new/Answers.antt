use Rattle.std.proofs.Common.{ap, cond, refl, ◌∙◌}
use Rattle.std.proofs.lemmas.Bool.{le-leb}
use Rattle.run_plan.specs.Limits.{most_berths}
use Rattle.placed_rules.specs.Placed.{shared_by}
use Rattle.placed_rules.specs.Pools.{seats, usable_seats}
use Rattle.shared_laws.specs.Spoken.{berths_from}
use Rattle.placed_berths.specs.declared.shared.SharedBerths.{SharedBerths}
use Rattle.placed_berths.proofs.PoolsBegun.{pools_begun}
use Rattle.placed_berths.proofs.shared.SharedBerths.new.Goals as goal

pub returns : goal.returns
returns c =
    let q = shared_by c.args.plan.now c.args.pools c.args.instances in
    let same = c.in_ok-pools.ensures {u = tt} in
    let few = ap (λ b. cond b (seats q) 0) (le-leb (seats q) most_berths c.requires.berths) in
    let all = c.berths.ensures ∙ ap usable_seats same ∙ few in
    let m : SharedBerths = record {
      pools = c.in_ok-pools.pools;
      instances = c.args.instances;
      spoken = c.silent_berths-spoken.result;
    } in
    pools_begun q m c.requires same refl
    (c.silent_berths-spoken.ensures ∙ ap (berths_from 0) all)
