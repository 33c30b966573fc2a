-- What a list that was read keeps, as far as its plan asks for it.
use Rattle.std.specs.Prelude.{◌≡◌, ℕ, ◌≤◌, nat_le, List, [], length, true, Ok}
use Rattle.std.specs.List.{list_all}
use Rattle.list_actions.specs.declared.types.ListAction.{ListAction}
use Rattle.list_actions.specs.declared.producers.Producers.{Producers}
use Rattle.list_actions.specs.Producers.{producer_of}
use Rattle.list_actions.specs.Made.{maker_of}
use Rattle.list_actions.specs.Order.{orders_check}
use Rattle.run_plan.specs.Limits.{most_actions}

-- At most 4,096 actions with at most 256 outputs each, and no fault between them.
pub record IsWhole (xs : List ListAction) : Type 0 where
  pub few : length xs ≤ most_actions
  pub few_outputs : list_all (λ x. nat_le (length x.outputs) 256) xs ≡ true
  pub ordered : orders_check [] xs ≡ Ok tt

-- the table has the producers of just these actions' outputs
pub record KnowsProducers (t : Producers) (before : List ListAction) : Type 0 where
  pub known : (q : List ℕ) → producer_of t q ≡ maker_of before q
