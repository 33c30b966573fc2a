-- The work of a whole list, with the words of its requests, is that of the chosen plan.
use Rattle.std.proofs.Common.{◌≡◌, ℕ, zero, suc, ◌+◌, ◌^◌, ◌<◌, true, false, cond, List, [], ◌∷◌, ◌++◌, length, map, Option, Some, None, Result, Ok, Err, slice_get, refl, sym, ap, subst, ◌∙◌, arith}
use Rattle.std.proofs.lemmas.List.{length-map, map-append}
use Rattle.std.specs.List.{All, filter_map}
use Rattle.action_list.specs.Keys.{keys_of}
use Rattle.action_list.specs.Plans.{plan_actions}
use Rattle.flag_files.specs.declared.expanding.FlagFault.{FlagFault}
use Rattle.list_actions.specs.declared.types.ListAction.{ListAction}
use Rattle.list_actions.specs.Made.{maker_of, producer_from, producer_in}
use Rattle.list_actions.specs.Whole.{IsWhole}
use Rattle.outside.specs.declared.floor.SourceFile.{SourceFile}
use Rattle.run_values.specs.Work.{IsMadeBy, IsWork, IsWorkOf}
use Rattle.remote_messages.specs.declared.work.WorkAction.{WorkAction}
use Rattle.remote_messages.specs.declared.work.WorkInput.{WorkInput}
use Rattle.run_loading.specs.Works.{due_work}
use Rattle.run_plan.specs.declared.plan.Maker.{Maker}
use Rattle.run_plan.specs.declared.plan.Plan.{Plan}
use Rattle.run_plan.specs.declared.plan.PlanAction.{PlanAction}
use Rattle.run_tasks.proofs.Works.{all_work}
use Rattle.spawn_strategies.specs.declared.types.Name.{Name}
use Rattle.spawn_strategies.specs.declared.types.PlanLimits.{PlanLimits}
use Rattle.spawn_strategies.specs.declared.types.SpawnOptions.{SpawnOptions}
use Rattle.spawn_strategies.specs.Choices.{all_placed, choice_of, chosen_actions, chosen_names, first_unsupported, name_of, plan_by, sandbox_groups, with_name}
use Rattle.spawn_strategies.proofs.Placed.{makers_kept, outputs_kept}
use Rattle.spawn_strategies.proofs.Plans.{answered}
use Rattle.spawn_tasks.specs.Wording.{all_worded, lacks_words, own_words, with_request, worded}
use Rattle.spawn_tasks.proofs.Worded.{AreAsMany, rest_as_many}

-- ---- what the work of an action is asked by

-- an action's outputs and who makes its inputs
abbrev View : Type 0
View = List (List ℕ) × List Maker

abbrev seen : PlanAction → View
seen y = (y.outputs, y.makers)

first_of : {X : Type 0} {a b : X} {xs ys : List X} → a ∷ xs ≡ b ∷ ys → a ≡ b
first_of e = cc

later_of : {X : Type 0} {a b : X} {xs ys : List X} → a ∷ xs ≡ b ∷ ys → xs ≡ ys
later_of e = cc

-- where two lists of actions are seen alike, each action has one that is seen as it is
seen_at : (ys zs : List PlanAction) (a : ℕ) (y : PlanAction) → map seen ys ≡ map seen zs
    → slice_get ys a ≡ Some y → (z : PlanAction) × (slice_get zs a ≡ Some z) × (seen z ≡ seen y)
seen_at [] zs a y alike at = absurd (cc)
seen_at (x ∷ ys) [] a y alike at = absurd (cc)
seen_at (x ∷ ys) (z ∷ zs) zero y alike at =
    let is : x ≡ y = cc in (z, refl, sym (first_of alike) ∙ ap seen is)
seen_at (x ∷ ys) (z ∷ zs) (suc a) y alike at = seen_at ys zs a y (later_of alike) at

-- ---- the actions of both plans are seen alike

placed_alike : (sandbox executor : ℕ) (ns : List Name) (ys : List PlanAction)
    → map seen (all_placed sandbox executor ns ys) ≡ map seen ys
placed_alike sandbox executor [] ys = refl
placed_alike sandbox executor (n ∷ ns) [] = refl
placed_alike sandbox executor (n ∷ ns) (y ∷ ys) = λ i.
    (outputs_kept sandbox executor n y i, makers_kept sandbox executor n y i)
    ∷ placed_alike sandbox executor ns ys i

module _ (f : ListAction → Name) where
  abbrev own : ListAction → ListAction
  own x = with_name (f x) x

  same_producer : (found : Option Maker) (p : List ℕ) (a : ℕ) (xs : List ListAction)
      → producer_from found p a (map own xs) ≡ producer_from found p a xs
  same_producer found p a [] = refl
  same_producer found p a (x ∷ xs) = same_producer (producer_in found p a 0 x.outputs) p (a + 1) xs

  same_makers : (before : List ListAction) → maker_of (map own before) ≡ maker_of before
  same_makers before = λ i p. same_producer None p 0 before i

  planned_alike : (keys keys' : List (List ℕ)) (before xs : List ListAction)
      → map seen (plan_actions keys (map own before) (map own xs))
      ≡ map seen (plan_actions keys' before xs)
  planned_alike keys keys' before [] = refl
  planned_alike keys keys' before (x ∷ xs) =
      ap (λ makers. (x.outputs, filter_map makers x.inputs)
      ∷ map seen (plan_actions keys (map own before ++ own x ∷ []) (map own xs)))
      (same_makers before)
      ∙ ap (λ front. (x.outputs, filter_map (maker_of before) x.inputs)
      ∷ map seen (plan_actions keys front (map own xs))) (sym (map-append own before (x ∷ [])))
      ∙ ap (λ vs. (x.outputs, filter_map (maker_of before) x.inputs) ∷ vs)
      (planned_alike keys keys' (before ++ x ∷ []) xs)

-- ---- the works with their words have the same outputs and inputs

-- nothing else of it changes
pub record SameParts (w v : WorkAction) : Type 0 where
  pub outputs : v.outputs ≡ w.outputs
  pub inputs : v.inputs ≡ w.inputs

of_words : (w v : WorkAction) (r : Result (List (List ℕ)) FlagFault) → with_request w r ≡ Ok v
    → SameParts w v
of_words w v (Ok words) e =
    let same : record w { request_words = words } ≡ v = cc in record {
      outputs = ap (λ (u : WorkAction). u.outputs) (sym same);
      inputs = ap (λ (u : WorkAction). u.inputs) (sym same);
    }
of_words w v (Err f) e = absurd (cc)

same_parts : (n : Name) (x : ListAction) (w v : WorkAction) → worded n x w ≡ Ok v → SameParts w v
same_parts n x w v e =
    elim (lacks_words n x)
    as (λ b. cond b (with_request w (own_words x w.inputs)) (Ok w) ≡ Ok v → SameParts w v) [
      | true ↦ (λ is. of_words w v (own_words x w.inputs) is)
      | false ↦ (λ is. let same : w ≡ v = cc in record {
        outputs = ap (λ (u : WorkAction). u.outputs) (sym same);
        inputs = ap (λ (u : WorkAction). u.inputs) (sym same);
      })
    ] e

moved : (outputs : List (List ℕ)) (makers : List Maker) (w v : WorkAction) → SameParts w v
    → IsWork outputs makers w → IsWork outputs makers v
moved outputs makers w v same is = record {
  same_outputs = same.outputs ∙ is.same_outputs;
  few = subst (λ (os : List (List ℕ)). length os < 2 ^ 32) (sym same.outputs) is.few;
  made = subst (λ (is : List WorkInput). All (λ i. IsMadeBy makers i.origin) is)
      (sym same.inputs) is.made;
}

abbrev EachKept : List WorkAction → List WorkAction → Type 0
EachKept ws vs =
    (a : ℕ) (v : WorkAction) → slice_get vs a ≡ Some v
    → (w : WorkAction) × (slice_get ws a ≡ Some w) × SameParts w v

one_kept : (w v : WorkAction) (ws vs : List WorkAction) → SameParts w v → EachKept ws vs
    → EachKept (w ∷ ws) (v ∷ vs)
one_kept w v ws vs here later zero u at =
    (w, refl, let same : v ≡ u = cc in subst (λ (z : WorkAction). SameParts w z) same here)
one_kept w v ws vs here later (suc a) u at = later a u at

-- as many, and each keeps what is asked of it
kept : (ns : List Name) (xs : List ListAction) (ws vs : List WorkAction) → AreAsMany ns xs ws
    → all_worded ns xs ws ≡ map (λ w. Ok w) vs → (length vs ≡ length ws) × EachKept ws vs
kept [] [] [] [] m e = (refl, λ a v at. absurd (cc))
kept [] [] [] (v ∷ vs) m e = absurd (cc)
kept [] [] (w ∷ ws) vs m e = absurd (let many = m.worked in omega arith)
kept [] (x ∷ xs) ws vs m e = absurd (let many = m.named in omega arith)
kept (n ∷ ns) [] ws vs m e = absurd (let many = m.named in omega arith)
kept (n ∷ ns) (x ∷ xs) [] vs m e = absurd (let many = m.worked in omega arith)
kept (n ∷ ns) (x ∷ xs) (w ∷ ws) [] m e = absurd (cc)
kept (n ∷ ns) (x ∷ xs) (w ∷ ws) (v ∷ vs) m e =
    let rest = kept ns xs ws vs (rest_as_many m) (later_of e) in
    (ap suc rest.0, one_kept w v ws vs (same_parts n x w v (first_of e)) rest.1)

-- ---- all of it

module _ (o : SpawnOptions) (xs : List ListAction) (whole : IsWhole xs) (files : List SourceFile)
    (ws : List WorkAction)
    (loaded : map (due_work (maker_of xs) files) xs ≡ map (λ w. Ok w) ws) where
  pub as_many : AreAsMany (chosen_names o.strategies xs) xs ws
  as_many = record {
    named = length-map xs (name_of o.strategies);
    worked = sym (length-map ws (λ w. Ok w)) ∙ ap length (sym loaded)
        ∙ length-map xs (due_work (maker_of xs) files);
  }

  pub works : (l : PlanLimits) (p : Plan) (vs : List WorkAction) → choice_of xs o.strategies l ≡ Ok p
      → all_worded (chosen_names o.strategies xs) xs ws ≡ map (λ w. Ok w) vs
      → IsWorkOf p vs
  unfolding choice_of
  works l p vs chosen worded_all =
      let words = o.strategies in
      let ys = chosen_actions words xs in
      let ns = chosen_names words xs in
      let due = plan_by ys ns l.instances words.sandboxed l.remote l.retries in
      let is = answered (first_unsupported words xs) l.keys (length (keys_of ys)) due p chosen in
      let loaded_plan = plan_actions (keys_of xs) [] xs in
      let alike : map seen due.actions ≡ map seen loaded_plan =
      placed_alike (length (keys_of ys))
      (length (keys_of ys) + length (sandbox_groups words.sandboxed ns)) ns
      (plan_actions (keys_of ys) [] ys)
      ∙ planned_alike (name_of words) (keys_of ys) (keys_of xs) [] xs in
      let all = all_work (keys_of xs) files xs ws whole.ordered whole.few_outputs loaded in
      let k = kept ns xs ws vs as_many worded_all in
      subst (λ (q : Plan). IsWorkOf q vs) is.1 (record {
        as_many = k.0 ∙ all.0 ∙ sym (length-map loaded_plan seen) ∙ ap length (sym alike)
            ∙ length-map due.actions seen;
        each = λ a y v planned at.
            let w = k.1 a v at in
            let z = seen_at due.actions loaded_plan a y alike planned in
            subst (λ (s : View). IsWork s.0 s.1 v) z.2
            (moved z.0.outputs z.0.makers w.0 v w.2 (all.1 a z.0 w.0 z.1 w.1));
      })
