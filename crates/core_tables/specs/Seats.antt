-- What the plan says of a berth.
use Rattle.std.specs.Prelude.{ℕ, ◌+◌, ◌-◌, nat_lt, Option, Some, None, if◌then◌else◌, List, [], ◌∷◌}
use Rattle.run_plan.specs.declared.plan.Group.{Group}
use Rattle.run_plan.specs.declared.plan.Plan.{Plan}
use Rattle.core_tables.specs.declared.berth_group.BerthGroup.{BerthGroup}

abbrev pub seat_here : ℕ → ℕ → Group → BerthGroup
seat_here g first x = record {
  group = g;
  first = first;
  berths = x.berths;
  kind = x.kind;
  cancel = x.cancel;
}

-- of the berth w of these groups, the first of which has the number g and the first berth `first`
abbrev pub seat_from : ℕ → ℕ → List Group → ℕ → Option BerthGroup
seat_from g first [] w = None
seat_from g first (x ∷ xs) w = if nat_lt w x.berths then Some (seat_here g first x) else seat_from
    (g + 1) (first + x.berths) xs (w - x.berths)

abbrev pub seat_at : Plan → ℕ → Option BerthGroup
seat_at p w = seat_from 0 0 p.groups w
