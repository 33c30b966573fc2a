-- Each maker of a plan is an output of an earlier action.
use Rattle.std.proofs.Common.{◌≡◌, ℕ, zero, suc, ◌+◌, ◌<◌, ◌≤◌, Bool, true, false, cond, ltb, List, [], ◌∷◌, ◌++◌, length, Option, Some, None, slice_get, unwrap_or, option_map, refl, sym, ap, subst, ◌∙◌, arith}
use Rattle.std.proofs.lemmas.Bool.{and_from, lt-ltb}
use Rattle.std.specs.List.{cons_option, filter_map, list_all}
use Rattle.std.specs.Str.{bytes_eq}
use Rattle.run_plan.specs.declared.plan.Maker.{Maker}
use Rattle.run_plan.specs.declared.plan.PlanAction.{PlanAction}
use Rattle.run_plan.specs.Sound.{is_earlier}
use Rattle.list_actions.specs.declared.types.ListAction.{ListAction}
use Rattle.list_actions.specs.Made.{maker_of, producer_from, producer_in}
use Rattle.action_list.specs.Plans.{plan_action, plan_actions}

-- the plan has the action, and the action this output
abbrev pub is_there : List PlanAction → Maker → Bool
is_there ys m = unwrap_or (option_map (λ x. ltb m.output (length x.outputs)) (slice_get ys m.action)) false

abbrev pub IsGood : List PlanAction → ℕ → Maker → Type 0
IsGood ys below m = (m.action < below) × (is_there ys m ≡ true)

-- each maker that is found is good
abbrev pub AreGood : List PlanAction → ℕ → Option Maker → Type 0
AreGood ys below found = (m : Maker) → found ≡ Some m → IsGood ys below m

producer_in-good : (ys : List PlanAction) (below : ℕ) (found : Option Maker) (p : List ℕ) (a j : ℕ) (us : List (List ℕ)) → AreGood ys below found
    → ((o : ℕ) → o < j + length us → IsGood ys below (record { action = a; output = o })) → AreGood ys below (producer_in found p a j us)
producer_in-good ys below found p a j [] good each = good
producer_in-good ys below found p a j (u ∷ us) good each =
    let now : Option Maker = cond (bytes_eq u p) (Some (record { action = a; output = j })) found in
    let good_now : AreGood ys below now =
    elim (bytes_eq u p) as (λ b. AreGood ys below (cond b (Some (record { action = a; output = j })) found))
    [ true ↦ (λ m e. let same : record { action = a; output = j } ≡ m = cc in subst (λ n. IsGood ys below n) same (each j (omega arith))) | false ↦ good ] in
    producer_in-good ys below now p a (j + 1) us good_now (λ o h. each o (omega arith))

-- the plan's actions from a on have the outputs of these
abbrev pub HasOutputs : List PlanAction → ℕ → List ListAction → Type 0
HasOutputs ys a zs = (k : ℕ) (z : ListAction) → slice_get zs k ≡ Some z → (y : PlanAction) × (slice_get ys (a + k) ≡ Some y) × (y.outputs ≡ z.outputs)

raised : (ys : List PlanAction) (a b : ℕ) (found : Option Maker) → a ≤ b → AreGood ys a found → AreGood ys b found
raised ys a b found le good m e = let g = good m e in (omega (arith, g.0), g.1)

there_at : (ys : List PlanAction) (a o : ℕ) (y : PlanAction) → slice_get ys a ≡ Some y → o < length y.outputs → is_there ys (record { action = a; output = o }) ≡ true
there_at ys a o y at within = ap (λ s. unwrap_or (option_map (λ x. ltb o (length x.outputs)) s) false) at ∙ lt-ltb o (length y.outputs) within

producer_from-good : (ys : List PlanAction) (found : Option Maker) (p : List ℕ) (a : ℕ) (zs : List ListAction) → AreGood ys a found → HasOutputs ys a zs → AreGood ys (a + length zs) (producer_from found p a zs)
producer_from-good ys found p a [] good has = raised ys a (a + 0) found (omega arith) good
producer_from-good ys found p a (z ∷ zs) good has =
    let here = has 0 z refl in
    let zeroth : a + 0 ≡ a = omega arith in
    let at : slice_get ys a ≡ Some here.0 = ap (λ n. slice_get ys n) (sym zeroth) ∙ here.1 in
    let each : (o : ℕ) → o < 0 + length z.outputs → IsGood ys (a + 1) (record { action = a; output = o }) =
    λ o h. (omega arith, there_at ys a o here.0 at (subst (λ os. o < length os) (sym here.2) (omega arith))) in
    let good_here = producer_in-good ys (a + 1) found p a 0 z.outputs (raised ys a (a + 1) found (omega arith) good) each in
    let later : HasOutputs ys (a + 1) zs = λ k z' e. let h = has (suc k) z' e in let n : (a + 1) + k ≡ a + suc k = omega arith in (h.0, ap (λ m. slice_get ys m) n ∙ h.1, h.2) in
    let total : (a + 1) + length zs ≡ a + length (z ∷ zs) = omega arith in
    subst (λ n. AreGood ys n (producer_from found p a (z ∷ zs))) total (producer_from-good ys (producer_in found p a 0 z.outputs) p (a + 1) zs good_here later)

-- the plan's actions have the outputs of the list's
plan_at : (keys : List (List ℕ)) (before xs : List ListAction) (k : ℕ) (z : ListAction) → slice_get xs k ≡ Some z
    → (y : PlanAction) × (slice_get (plan_actions keys before xs) k ≡ Some y) × (y.outputs ≡ z.outputs)
plan_at keys before [] k z e = cc
plan_at keys before (x ∷ xs) zero z e =
    let same : x ≡ z = cc in (plan_action keys before x, refl, ap (λ v. v.outputs) same)
plan_at keys before (x ∷ xs) (suc k) z e = plan_at keys (before ++ x ∷ []) xs k z e

slice_get-front : (xs ys : List ListAction) (k : ℕ) (z : ListAction) → slice_get xs k ≡ Some z → slice_get (xs ++ ys) k ≡ Some z
slice_get-front [] ys k z e = cc
slice_get-front (x ∷ xs) ys zero z e = e
slice_get-front (x ∷ xs) ys (suc k) z e = slice_get-front xs ys k z e

pub has_outputs : (keys : List (List ℕ)) (before rest : List ListAction) → HasOutputs (plan_actions keys [] (before ++ rest)) 0 before
has_outputs keys before rest k z e =
    let h = plan_at keys [] (before ++ rest) k z (slice_get-front before rest k z e) in
    let n : k ≡ 0 + k = omega arith in
    (h.0, ap (λ m. slice_get (plan_actions keys [] (before ++ rest)) m) (sym n) ∙ h.1, h.2)

earlier : (ys : List PlanAction) (a : ℕ) (m : Maker) → IsGood ys a m → is_earlier ys a m ≡ true
earlier ys a m good = and_from _ _ (lt-ltb m.action a good.0) good.1

makers_earlier : (ys : List PlanAction) (a : ℕ) (f : List ℕ → Option Maker) (ps : List (List ℕ)) → ((p : List ℕ) → AreGood ys a (f p)) → list_all (is_earlier ys a) (filter_map f ps) ≡ true
makers_earlier ys a f [] good = refl
makers_earlier ys a f (p ∷ ps) good =
    elim (f p) as (λ o. f p ≡ o → list_all (is_earlier ys a) (cons_option o (filter_map f ps)) ≡ true) [
      | None ↦ (λ e. makers_earlier ys a f ps good)
      | Some m ↦ (λ e. and_from _ _ (earlier ys a m (good p m e)) (makers_earlier ys a f ps good))
    ]
    refl

nothing_good : (ys : List PlanAction) (a : ℕ) → AreGood ys a None
nothing_good ys a m e = cc

pub sound_makers : (keys : List (List ℕ)) (before rest : List ListAction) (ps : List (List ℕ))
    → list_all (is_earlier (plan_actions keys [] (before ++ rest)) (length before)) (filter_map (maker_of before) ps) ≡ true
sound_makers keys before rest ps =
    let ys = plan_actions keys [] (before ++ rest) in
    let total : 0 + length before ≡ length before = omega arith in
    makers_earlier ys (length before) (maker_of before) ps
    (λ p. subst (λ n. AreGood ys n (maker_of before p)) total (producer_from-good ys None p 0 before (nothing_good ys 0) (has_outputs keys before rest)))
