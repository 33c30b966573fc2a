-- A list that was read has what its plan asks for.
use Rattle.std.proofs.Common.{◌≡◌, ℕ, ◌+◌, ◌≤◌, true, false, cond, leb, List, [], ◌∷◌, length, map, codes, Option, Some, None, is_some, Result, Ok, Err, IfOk, refl, subst, arith}
use Rattle.std.proofs.lemmas.Bool.{and_from, le-leb, leb-true}
use Rattle.std.proofs.lemmas.List.{length-map}
use Rattle.std.specs.List.{list_all}
use Rattle.serde_json.specs.Data.{Data, Items}
use Rattle.serde_json.specs.Find.{as_array, as_object, get}
use Rattle.action_list.specs.declared.draft.Draft.{Draft}
use Rattle.action_list.specs.declared.draft.Slot.{Slot}
use Rattle.action_list.specs.declared.draft.Slot.TheVariants.{Missing, Other, Held}
use Rattle.list_actions.specs.declared.faults.ListFault.{ListFault}
use Rattle.list_actions.specs.declared.faults.ListFault.TheVariants as fault
use Rattle.list_actions.specs.declared.faults.Key.TheVariants as key
use Rattle.list_actions.specs.declared.faults.What.TheVariants as what
use Rattle.list_actions.specs.declared.types.ActionList.{ActionList}
use Rattle.action_list.specs.Actions.{action_in, action_of}
use Rattle.list_actions.specs.Answers.{Answers, Check, first, and_then}
use Rattle.action_list.specs.Checks.{action_check, actions_check, count_check, key_check, list_in, paths_check, required, too_many, path_check}
use Rattle.action_list.specs.Format.{datas, draft_of}
use Rattle.action_list.specs.Lists.{list_check, list_of, list_of_datas, list_of_top}
use Rattle.list_actions.specs.Order.{orders_check}
use Rattle.action_list.specs.Top.{actions_in, few_actions, if_array, if_there, json_in}
use Rattle.list_actions.specs.Whole.{IsWhole}
use Rattle.list_actions.specs.declared.faults.ListRefusal.{ListRefusal}

-- the head and the rest of checks without a fault have none
head_fine : (check : Check) (later : List Check) → first (check ∷ later) ≡ Ok tt → check ≡ Ok tt
head_fine (Ok fine) later e = refl
head_fine (Err f) later e = cc

rest_fine : (check : Check) (later : List Check) → first (check ∷ later) ≡ Ok tt → first later ≡ Ok tt
rest_fine (Ok fine) later e = e
rest_fine (Err f) later e = cc

apart : (f : ListFault) (check : Check) → check ≡ Err f → check ≡ Ok tt → ⊥
apart f check refused fine = cc

count_fine : (limit n : ℕ) → count_check what.Outputs limit n ≡ Ok tt → n ≤ limit
count_fine limit n e =
    elim (leb n limit) as (λ b. leb n limit ≡ b → cond b (Ok tt) (Err (fault.TooMany what.Outputs n)) ≡ Ok tt → n ≤ limit)
    [ true ↦ (λ is h. leb-true n limit is) | false ↦ (λ is h. absurd (apart (fault.TooMany what.Outputs n) _ refl h)) ] refl e

outputs_fine : (a : ℕ) (s : Slot (List (List ℕ))) → required a key.Outputs (paths_check a what.Outputs 256) s ≡ Ok tt → length (list_in s) ≤ 256
outputs_fine a Missing e = cc
outputs_fine a Other e = cc
outputs_fine a (Held paths) e = count_fine 256 (length paths) (head_fine (too_many what.Outputs 256 paths) (first (map (path_check a) paths) ∷ []) e)

few_outputs : (a : ℕ) (d : Draft) → action_check a d ≡ Ok tt → length (action_of d).outputs ≤ 256
unfolding action_check action_of
few_outputs a d e =
    let from_name = rest_fine (key_check a d key.Action) _ e in
    let from_mnemonic = rest_fine (key_check a d key.Name) _ from_name in
    let from_argv = rest_fine (key_check a d key.Mnemonic) _ from_mnemonic in
    let from_env = rest_fine (key_check a d key.Argv) _ from_argv in
    let from_tools = rest_fine (key_check a d key.Env) _ from_env in
    let from_inputs = rest_fine (key_check a d key.Tools) _ from_tools in
    let from_outputs = rest_fine (key_check a d key.Inputs) _ from_inputs in
    outputs_fine a d.outputs (head_fine (key_check a d key.Outputs) _ from_outputs)

all_few : (a : ℕ) (ds : List Data) → actions_check a ds ≡ Ok tt → list_all (λ x. leb (length x.outputs) 256) (map action_in ds) ≡ true
all_few a [] e = refl
all_few a (d ∷ ds) e =
    let here = head_fine (action_check a (draft_of d)) (actions_check (a + 1) ds ∷ []) e in
    let rest = head_fine (actions_check (a + 1) ds) [] (rest_fine (action_check a (draft_of d)) (actions_check (a + 1) ds ∷ []) e) in
    and_from _ _ (le-leb _ 256 (few_outputs a (draft_of d) here)) (all_few (a + 1) ds rest)

-- ---- the number of the actions

few_fine : (ds es : List Data) → few_actions ds ≡ Ok es → length es ≤ 4096
few_fine ds es e =
    elim (leb (length ds) 4096) as (λ b. leb (length ds) 4096 ≡ b → cond b (Ok ds) (Err (fault.TooMany what.Actions (length ds))) ≡ Ok es → length es ≤ 4096)
    [ true ↦ (λ is h. let same : ds ≡ es = cc in subst (λ xs. length xs ≤ 4096) same (leb-true (length ds) 4096 is)) | false ↦ (λ is h. cc) ] refl e

array_fine : (o : Option Items) (es : List Data) → if_array o ≡ Ok es → length es ≤ 4096
array_fine None es e = cc
array_fine (Some is) es e = few_fine (datas is) es e

there_fine : (o : Option Data) (es : List Data) → if_there o ≡ Ok es → length es ≤ 4096
there_fine None es e = cc
there_fine (Some d) es e = array_fine (as_array d) es e

few_in : (d : Data) (es : List Data) → actions_in d ≡ Ok es → length es ≤ 4096
few_in d es e =
    elim (is_some (as_object d)) as (λ b. cond b (if_there (get (codes "actions") d)) (Err (fault.WrongKind None key.Top)) ≡ Ok es → length es ≤ 4096)
    [ true ↦ (λ h. there_fine (get (codes "actions") d) es h) | false ↦ (λ h. cc) ] e

-- ---- the whole

whole_datas : (limit : ℕ) (ds : List Data) (l : ActionList) → length ds ≤ 4096 → list_of_datas limit ds ≡ Ok l → IsWhole l.actions
whole_datas limit ds l few e =
    elim (first (actions_check 0 ds ∷ list_check limit (map action_in ds) ∷ []))
    as (λ r. first (actions_check 0 ds ∷ list_check limit (map action_in ds) ∷ []) ≡ r → and_then r (λ fine. Ok (record { actions = map action_in ds })) ≡ Ok l → IsWhole l.actions) [
      | Ok fine ↦ (λ is h.
          let checked = head_fine (actions_check 0 ds) _ is in
          let listed = head_fine (list_check limit (map action_in ds)) [] (rest_fine (actions_check 0 ds) _ is) in
          let ordered = head_fine (orders_check [] (map action_in ds)) _ listed in
          let made : ActionList = record { actions = map action_in ds } in
          let same : made ≡ l = cc in
          let whole : IsWhole made.actions = record { few = omega (arith, length-map ds action_in); few_outputs = all_few 0 ds checked; ordered = ordered } in
          subst (λ m. IsWhole m.actions) same whole)
      | Err f ↦ (λ is h. cc)
    ]
    refl e

whole_top : (limit : ℕ) (d : Data) (l : ActionList) → list_of_top limit d ≡ Ok l → IsWhole l.actions
whole_top limit d l e =
    elim (actions_in d) as (λ r. actions_in d ≡ r → and_then r (list_of_datas limit) ≡ Ok l → IsWhole l.actions)
    [ Ok ds ↦ (λ is h. whole_datas limit ds l (few_in d ds is) h) | Err f ↦ (λ is h. cc) ]
    refl e

pub whole_list : (limit : ℕ) (bytes : List ℕ) (l : ActionList) → list_of limit bytes ≡ Ok l → IsWhole l.actions
whole_list limit bytes l e =
    elim (json_in bytes) as (λ r. and_then r (list_of_top limit) ≡ Ok l → IsWhole l.actions) [ Ok d ↦ (λ h. whole_top limit d l h) | Err f ↦ (λ h. cc) ] e

pub whole_answer : (limit : ℕ) (bytes : List ℕ) (result : Result ActionList ListRefusal) → Answers result (list_of limit bytes) → IfOk result (λ l. IsWhole l.actions)
whole_answer limit bytes (Ok l) e = whole_list limit bytes l e
whole_answer limit bytes (Err r) e = tt
