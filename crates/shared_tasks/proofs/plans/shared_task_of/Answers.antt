use Rattle.std.proofs.Common.{◌≡◌, ◌∙◌, List, length, map, ap, sym, subst, arith}
use Rattle.run_plan.specs.Sound.{Sound}
use Rattle.run_plan.specs.declared.plan.Group.{Group}
use Rattle.run_plan.specs.declared.plan.Plan.{Plan}
use Rattle.run_tasks.proofs.Fits.{as_many_parts}
use Rattle.shared_tasks.specs.Tasks.{without_berths}
use Rattle.shared_tasks.proofs.Bare.{sound_bare}
use Rattle.shared_tasks.proofs.plans.shared_task_of.Goals as goal

pub group_parts-requires : goal.group_parts-requires
group_parts-requires c =
    let of_groups = c.in_ok-groups.ensures in
    let slice = c.as_slice.ensures in
    let after = c.replace-drawn.ensures.after in
    let is : c.replace-drawn.new.dest ≡ map without_berths c.in_ok-plan.plan.groups = cc in
    let P : List Group → Type 0 = λ gs. Sound (record {
      actions = c.in_ok-plan.plan.actions;
      groups = gs;
      limit = c.in_ok-plan.plan.limit;
    }) in
    subst P (sym is) (sound_bare c.in_ok-plan.plan c.in_ok-plan.ensures.sound)

pub pools_of-requires-clause-parts : goal.pools_of-requires-clause-parts
pools_of-requires-clause-parts c =
    let of_groups = c.in_ok-groups.ensures in
    let drawn = c.as_slice.ensures in
    let after = c.replace-drawn.ensures.after in
    let is : c.replace-drawn.new.dest ≡ map without_berths c.in_ok-plan.plan.groups = cc in
    let sound = sound_bare c.in_ok-plan.plan c.in_ok-plan.ensures.sound in
    let few = sound.groups in
    let same = ap length is in
    let made = c.in_ok-parts.ensures in
    let slice = ap length (c.as_slice-4.ensures.value ∙ made) in
    let plan : Plan = record {
      actions = c.in_ok-plan.plan.actions;
      groups = c.replace-drawn.new.dest;
      limit = c.in_ok-plan.plan.limit;
    } in
    let many = as_many_parts c.args.list.now.actions plan c.as_slice-2.result.now
    c.as_str.result.now c.in_ok-parts.parts.items made in
    omega (arith, few, same, slice, many)
