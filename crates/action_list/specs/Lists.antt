-- The whole list: what the bytes say, or the first fault.
use Rattle.std.specs.Prelude.{ℕ, List, [], ◌∷◌, map, Result, Ok}
use Rattle.serde_json.specs.Data.{Data}
use Rattle.list_actions.specs.declared.faults.ListFault.{ListFault}
use Rattle.list_actions.specs.declared.types.ActionList.{ActionList}
use Rattle.list_actions.specs.declared.types.ListAction.{ListAction}
use Rattle.action_list.specs.Actions.{action_in}
use Rattle.list_actions.specs.Answers.{Check, and_then, first}
use Rattle.action_list.specs.Checks.{actions_check}
use Rattle.action_list.specs.Keys.{keys_check}
use Rattle.list_actions.specs.Order.{orders_check}
use Rattle.action_list.specs.Top.{actions_in, json_in}

-- what must hold of all actions together, with at most so many keys
abbrev pub list_check : ℕ → List ListAction → Check
list_check limit xs = first (orders_check [] xs ∷ keys_check limit xs ∷ [])

abbrev pub list_of_datas : ℕ → List Data → Result ActionList ListFault
list_of_datas limit ds =
    and_then (first (actions_check 0 ds ∷ list_check limit (map action_in ds) ∷ []))
    (λ fine. Ok (record { actions = map action_in ds }))

abbrev pub list_of_top : ℕ → Data → Result ActionList ListFault
list_of_top limit d = and_then (actions_in d) (list_of_datas limit)

-- the list that the bytes are, where it may have so many worker keys, or the first fault
abbrev pub list_of : ℕ → List ℕ → Result ActionList ListFault
list_of limit bytes = and_then (json_in bytes) (list_of_top limit)
