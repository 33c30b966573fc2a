-- The plan's groups and berths: which group runs a branch, which berths it has, and how much room a
-- line has.
use Rattle.std.specs.Prelude.{ℕ, ◌+◌, ◌-◌, nat_lt, Bool, true, false, Option, Some, None, unwrap_or, option_map, option_and_then, if◌then◌else◌, List, [], ◌∷◌, slice_get, sum_by, take}
use Rattle.run_plan.specs.declared.plan.Branch.{Branch}
use Rattle.run_plan.specs.declared.plan.Branch.TheVariants.{Local, Remote}
use Rattle.run_plan.specs.declared.plan.Kind.{Kind}
use Rattle.run_plan.specs.declared.plan.Kind.TheVariants as kind
use Rattle.run_plan.specs.declared.plan.Group.{Group}
use Rattle.run_plan.specs.declared.plan.Plan.{Plan}
use Rattle.run_plan.specs.declared.plan.PlanAction.{PlanAction}

-- the group that runs the branch, where the action uses it
abbrev pub group_of : PlanAction → Branch → Option ℕ
group_of x Local = x.local
group_of x Remote = x.remote

-- the group of the berth w of these groups, the first of which has the number g
abbrev pub group_from : ℕ → List Group → ℕ → Option ℕ
group_from g [] w = None
group_from g (x ∷ xs) w = if nat_lt w x.berths then Some g else group_from (g + 1) xs (w - x.berths)

-- berths are numbered group by group
abbrev pub berth_group : Plan → ℕ → Option ℕ
berth_group p w = group_from 0 p.groups w

abbrev pub berths : Plan → ℕ
berths p = sum_by (λ g. g.berths) p.groups

abbrev pub first_berth : Plan → ℕ → ℕ
first_berth p g = sum_by (λ x. x.berths) (take g p.groups)

abbrev pub berths_of : Plan → ℕ → ℕ
berths_of p g = unwrap_or (option_map (λ x. x.berths) (slice_get p.groups g)) 0

-- the kind of the berth's group
abbrev pub kind_of : Plan → ℕ → Kind
kind_of p w = unwrap_or
    (option_map (λ g. g.kind)
    (option_and_then (λ k. slice_get p.groups k) (berth_group p w))) kind.Single

abbrev pub has_cancellation : Plan → ℕ → Bool
has_cancellation p g = unwrap_or (option_map (λ x. x.cancel) (slice_get p.groups g)) false

abbrev pub is_single : Kind → Bool
is_single kind.Single = true
is_single _ = false

abbrev pub is_remote : Kind → Bool
is_remote kind.Remote = true
is_remote _ = false

-- how many requests a line has room for
abbrev pub capacity : Kind → ℕ
capacity kind.Single = 1
capacity _ = 8
