-- The work of all actions, as a plan has them.
use Rattle.std.specs.Prelude.{◌≡◌, ◌<◌, ◌^◌, ℕ, true, List, length, slice_get, Some, All}
use Rattle.std.specs.List.{list_any}
use Rattle.run_plan.specs.declared.plan.Maker.{Maker}
use Rattle.run_plan.specs.declared.plan.Plan.{Plan}
use Rattle.run_plan.specs.declared.plan.PlanAction.{PlanAction}
use Rattle.remote_messages.specs.declared.work.Origin.{Origin}
use Rattle.remote_messages.specs.declared.work.Origin.TheVariants as origin
use Rattle.remote_messages.specs.declared.work.WorkAction.{WorkAction}
use Rattle.exec_journal.specs.Scripts.{is_made}

-- an input that another action makes is one of these
abbrev pub IsMadeBy : List Maker → Origin → Type 0
IsMadeBy makers (origin.Source bytes) = Unit {0}
IsMadeBy makers (origin.Made a o) = list_any (λ m. is_made m a o) makers ≡ true

-- what is asked of the work of one action
pub record IsWork (outputs : List (List ℕ)) (makers : List Maker) (work : WorkAction) : Type 0 where
  pub same_outputs : work.outputs ≡ outputs
  pub few : length work.outputs < 2 ^ 32
  pub made : All (λ input. IsMadeBy makers input.origin) work.inputs

-- the work of each action of this plan
pub record IsWorkOf (p : Plan) (works : List WorkAction) : Type 0 where
  pub as_many : length works ≡ length p.actions
  pub each : (a : ℕ) (action : PlanAction) (work : WorkAction) → slice_get p.actions a ≡ Some action
      → slice_get works a ≡ Some work → IsWork action.outputs action.makers work
