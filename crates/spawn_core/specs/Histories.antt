-- When a core stands for a history, whose oldest entry stands first.
use Rattle.run_plan.specs.declared.plan.Plan.{Plan}
use Rattle.core_contract.specs.Moves.{History}
use Rattle.core_contract.specs.Ruled.{journal_of}
use Rattle.spawn_core.specs.Plans as plans
use Rattle.spawn_core.specs.Stands.{Kept, KeptBy, Stands}

abbrev pub no_plan : Plan
no_plan = plans.no_plan

-- what a core goes by, of a policy that goes by this on each plan
abbrev pub basis_of : {M B : Type 0} → (M → Plan → B) → KeptBy M → B
basis_of basis m = basis m.policy m.state.plan

abbrev pub plan_of : Kept → Plan
plan_of m = m.state.plan

-- by its own plan it stands for the history's journal
abbrev pub StandsFor : Kept → History → Type 0
StandsFor m h = Stands (plan_of m) m (journal_of h)
