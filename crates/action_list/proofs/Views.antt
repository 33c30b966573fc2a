-- What the lists in memory are seen as.
use Rattle.std.proofs.Common.{◌≡◌, ◌<◌, List, [], ◌∷◌, length, map, Some, refl, sym, ap, ◌∙◌, String, option_and_then, Ok, Err, leb, ◌≤◌}
use Rattle.std.specs.declared.alloc.Global.{Global}
use Rattle.serde_json.specs.Data.{Data}
use Rattle.serde_json.specs.Find.{as_array, as_object}
use Rattle.serde_json.specs.View.{view, items_view, members_view}
use Rattle.serde_json.specs.declared.value.Value.{Value}
use Rattle.std.proofs.lemmas.Bool.{cond-false, cond-true, le-leb, lt-leb}
use Rattle.std.proofs.lemmas.List.{length-map}
use Rattle.action_list.specs.Top.{few_actions, if_array}
use Rattle.list_actions.specs.declared.faults.ListFault.TheVariants as fault
use Rattle.list_actions.specs.declared.faults.What.TheVariants as what
use Rattle.action_list.specs.Format.{all_texts, all_variables, datas, entries, entry, texts, variables}

pub datas-items_view : (vs : List Value) → datas (items_view vs) ≡ map view vs
datas-items_view [] = refl
datas-items_view (v ∷ vs) = ap (λ ds. view v ∷ ds) (datas-items_view vs)

pub entries-members_view : (es : List (String Global × Value)) → entries (members_view es) ≡ map entry es
entries-members_view [] = refl
entries-members_view (e ∷ es) = ap (λ ds. entry e ∷ ds) (entries-members_view es)

pub texts_of_array : (d : Data) (vs : List Value) → Some (items_view vs) ≡ as_array d → texts d ≡ all_texts (map view vs)
texts_of_array d vs e = ap (λ o. option_and_then (λ ds. all_texts (datas ds)) o) (sym e) ∙ ap all_texts (datas-items_view vs)

pub variables_of_object : (d : Data) (es : List (String Global × Value)) → Some (members_view es) ≡ as_object d → variables d ≡ all_variables (map entry es)
variables_of_object d es e = ap (λ o. option_and_then (λ ms. all_variables (entries ms)) o) (sym e) ∙ ap all_variables (entries-members_view es)

-- ---- the list of the actions

pub list_of_array : (d : Data) (vs : List Value) → Some (items_view vs) ≡ as_array d → if_array (as_array d) ≡ few_actions (map view vs)
list_of_array d vs e = ap if_array (sym e) ∙ ap few_actions (datas-items_view vs)

pub many_actions : (vs : List Value) → 4096 < length vs → few_actions (map view vs) ≡ Err (fault.TooMany what.Actions (length vs))
many_actions vs many =
    let same = length-map vs view in
    rw same (cond-false (leb (length vs) 4096) _ _ (lt-leb (length vs) 4096 many))

pub some_actions : (vs : List Value) → length vs ≤ 4096 → few_actions (map view vs) ≡ Ok (map view vs)
some_actions vs few =
    let same = length-map vs view in
    rw same (cond-true (leb (length vs) 4096) _ _ (le-leb (length vs) 4096 few))
