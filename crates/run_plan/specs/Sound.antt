-- What every call that takes a plan asks of it.
use Rattle.std.specs.Prelude.{◌≡◌, ℕ, suc, ◌^◌, ◌<◌, ◌≤◌, ◌==◌, nat_lt, Bool, true, false, ◌&&◌, ◌||◌, not, Option, Some, None, is_some, unwrap_or, option_map, List, [], ◌∷◌, length, slice_get}
use Rattle.std.specs.List.{list_all}
use Rattle.run_plan.specs.declared.plan.Group.{Group}
use Rattle.run_plan.specs.declared.plan.Maker.{Maker}
use Rattle.run_plan.specs.declared.plan.Plan.{Plan}
use Rattle.run_plan.specs.declared.plan.PlanAction.{PlanAction}
use Rattle.run_plan.specs.Groups.{berths, is_remote}
use Rattle.run_plan.specs.Limits.{most_actions, most_attempts, most_berths}

-- a branch names one of so many groups
abbrev pub names_group : ℕ → Option ℕ → Bool
names_group groups (Some g) = nat_lt g groups
names_group groups None = true

abbrev pub are_different : Option ℕ → Option ℕ → Bool
are_different (Some g) (Some h) = not (g == h)
are_different _ _ = true

-- the action uses a branch, each branch names a group, and the two name different ones
abbrev pub has_branches : ℕ → PlanAction → Bool
has_branches groups x =
    (is_some x.local || is_some x.remote)
    && ((names_group groups x.local && names_group groups x.remote)
    && are_different x.local x.remote)

-- a made input is an output of an earlier action
abbrev pub is_earlier : List PlanAction → ℕ → Maker → Bool
is_earlier actions a m =
    nat_lt m.action a
    && unwrap_or (option_map (λ x. nat_lt m.output (length x.outputs))
    (slice_get actions m.action)) false

abbrev pub is_sound_action : Plan → ℕ → PlanAction → Bool
is_sound_action p a x =
    nat_lt (length x.outputs) (2 ^ 32)
    && (has_branches (length p.groups) x && list_all (is_earlier p.actions a) x.makers)

-- each of the actions from a on
abbrev pub are_sound_from : Plan → ℕ → List PlanAction → Bool
are_sound_from p a [] = true
are_sound_from p a (x ∷ xs) = is_sound_action p a x && are_sound_from p (suc a) xs

-- a group of executors has no cancellation
abbrev pub is_sound_group : Group → Bool
is_sound_group g = not (is_remote g.kind && g.cancel)

-- at most 10 attempts, 4,096 actions and 64 berths, each action and group as said above
pub record Sound (p : Plan) : Type 0 where
  pub least : 1 ≤ p.limit
  pub most : p.limit ≤ most_attempts
  pub actions : length p.actions ≤ most_actions
  pub seats : berths p ≤ most_berths
  pub groups : length p.groups < 2 ^ 32
  pub each_group : list_all is_sound_group p.groups ≡ true
  pub each_action : are_sound_from p 0 p.actions ≡ true
