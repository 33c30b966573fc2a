use Rattle.std.proofs.Common.{length, ap, arith}
use Rattle.run_tasks.proofs.Fits.{as_many_parts}
use Rattle.spawn_tasks.proofs.parts.parts_by.Goals as goal

pub index_mut-requires : goal.index_mut-requires
index_mut-requires c =
    let many = as_many_parts c.args.list.now.actions c.args.plan.now c.as_slice.result.now
    c.as_str.result.now c.in_ok-parts.parts.items c.in_ok-parts.ensures in
    let below = c.in-Some.ensures.within in
    let groups = ap length c.as_slice-2.ensures in
    omega (arith, many, below, groups)
