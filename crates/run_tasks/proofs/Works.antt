-- The work of a whole list is that of its plan.
use Rattle.std.proofs.Common.{◌≡◌, ℕ, zero, suc, ◌+◌, ◌^◌, ◌<◌, Bool, true, false, cond, ◌||◌, leb, eqb, List, [], ◌∷◌, ◌++◌, length, map, Option, Some, None, Result, Ok, Err, slice_get, refl, sym, ap, subst, ◌∙◌, arith, append_assoc}
use Rattle.std.proofs.lemmas.Bool.{and_from, and_parts, leb-true}
use Rattle.std.proofs.lemmas.Bool.Decides.{nat_tests}
use Rattle.std.proofs.lemmas.List.Elements.{All-cons, All-nil}
use Rattle.std.specs.List.{All, cons_option, filter_map, find, list_all, list_any}
use Rattle.std.specs.Str.{bytes_eq}
use Rattle.run_plan.specs.declared.plan.Maker.{Maker}
use Rattle.run_plan.specs.declared.plan.PlanAction.{PlanAction}
use Rattle.flag_files.specs.declared.expanding.FlagFault.{FlagFault}
use Rattle.outside.specs.declared.floor.SourceFile.{SourceFile}
use Rattle.remote_messages.specs.declared.work.WorkAction.{WorkAction}
use Rattle.remote_messages.specs.declared.work.WorkInput.{WorkInput}
use Rattle.exec_journal.specs.Scripts.{is_made}
use Rattle.list_actions.specs.declared.types.ListAction.{ListAction}
use Rattle.list_actions.specs.Answers.{Check, first}
use Rattle.list_actions.specs.Order.{first_again, is_among, made_later, made_twice, name_twice, order_check, orders_check, outputs_of}
use Rattle.list_actions.specs.Made.{maker_of, producer_from, producer_in}
use Rattle.action_list.specs.Plans.{plan_action, plan_actions}
use Rattle.list_actions.proofs.Late.{is_among-append}
use Rattle.run_loading.specs.Works.{bytes_at, due_work, due_words, origin_of, with_words, work_action, work_input, work_inputs}
use Rattle.run_values.specs.Work.{IsMadeBy, IsWork}

-- ---- who makes a path

neither : (a b : Bool) → (a || b) ≡ false → (a ≡ false) × (b ≡ false)
neither true b e = absurd (cc)
neither false b e = (refl, e)

not_there : (found : Option Maker) (p : List ℕ) (a j : ℕ) (us : List (List ℕ))
    → is_among us p ≡ false → producer_in found p a j us ≡ found
not_there found p a j [] none = refl
not_there found p a j (u ∷ us) none =
    let parts = neither (bytes_eq u p) (is_among us p) none in
    let here : Option Maker = Some (record { action = a; output = j }) in
    ap (λ (b : Bool). producer_in (cond b here found) p a (j + 1) us) parts.0
    ∙ not_there found p a (j + 1) us parts.1

none_there : (found : Option Maker) (p : List ℕ) (a : ℕ) (xs : List ListAction)
    → is_among (outputs_of xs) p ≡ false → producer_from found p a xs ≡ found
none_there found p a [] none = refl
none_there found p a (x ∷ xs) none =
    let both = sym (is_among-append x.outputs (outputs_of xs) p) ∙ none in
    let parts = neither (is_among x.outputs p) (is_among (outputs_of xs) p) both in
    ap (λ (o : Option Maker). producer_from o p (a + 1) xs)
    (not_there found p a 0 x.outputs parts.0)
    ∙ none_there found p (a + 1) xs parts.1

-- the makers among some actions and then among the next
makers_on : (found : Option Maker) (p : List ℕ) (a : ℕ) (xs ys : List ListAction)
    → producer_from found p a (xs ++ ys)
    ≡ producer_from (producer_from found p a xs) p (a + length xs) ys
makers_on found p a [] ys =
    let here : a ≡ a + 0 = omega arith in
    ap (λ (n : ℕ). producer_from found p n ys) here
makers_on found p a (x ∷ xs) ys =
    let count : (a + 1) + length xs ≡ a + length (x ∷ xs) = omega arith in
    let now = producer_in found p a 0 x.outputs in
    makers_on now p (a + 1) xs ys
    ∙ ap (λ (n : ℕ). producer_from (producer_from now p (a + 1) xs) p n ys) count

-- a path that the later actions don't make is made among the earlier ones or not at all
same_maker : (before rest : List ListAction) (p : List ℕ) → is_among (outputs_of rest) p ≡ false
    → maker_of (before ++ rest) p ≡ maker_of before p
same_maker before rest p none =
    makers_on None p 0 before rest
    ∙ none_there (maker_of before p) p (0 + length before) rest none

-- ---- what the checks of a list say

pub head_fine : (check : Check) (later : List Check) → first (check ∷ later) ≡ Ok tt → check ≡ Ok tt
head_fine (Ok fine) later e = refl
head_fine (Err f) later e = cc

pub rest_fine : (check : Check) (later : List Check) → first (check ∷ later) ≡ Ok tt
    → first later ≡ Ok tt
rest_fine (Ok fine) later e = e
rest_fine (Err f) later e = cc

none_found : (a : ℕ) (o : Option (List ℕ)) → made_later a o ≡ Ok tt → o ≡ None
none_found a None e = refl
none_found a (Some path) e = absurd (cc)

-- the first of these paths that one of the actions makes
abbrev late_in : List ListAction → List (List ℕ) → Option (List ℕ)
late_in rest paths = find (is_among (outputs_of rest)) paths

none_later : (before : List ListAction) (x : ListAction) (rest : List ListAction)
    → orders_check before (x ∷ rest) ≡ Ok tt → late_in (x ∷ rest) x.inputs ≡ None
none_later before x rest e =
    let a = length before in
    let twice = made_twice a (first_again (outputs_of before) x.outputs) in
    let late = made_later a (late_in (x ∷ rest) x.inputs) in
    let here = head_fine (order_check before x (x ∷ rest)) _ e in
    let from_made = rest_fine (name_twice a before x) _ here in
    none_found a _ (head_fine late [] (rest_fine twice _ from_made))

others_fine : (before : List ListAction) (x : ListAction) (rest : List ListAction)
    → orders_check before (x ∷ rest) ≡ Ok tt → orders_check (before ++ x ∷ []) rest ≡ Ok tt
others_fine before x rest e =
    let behind = rest_fine (order_check before x (x ∷ rest)) _ e in
    head_fine (orders_check (before ++ x ∷ []) rest) [] behind

not_found : {X : Type 0} (b : Bool) (x : X) (o : Option X) → cond b (Some x) o ≡ None
    → (b ≡ false) × (o ≡ None)
not_found true x o e = absurd (cc)
not_found false x o e = (refl, e)

-- ---- the made inputs of one action

itself : (n : ℕ) → eqb n n ≡ true
itself n = grind (arith, nat_tests)

made_itself : (m : Maker) → is_made m m.action m.output ≡ true
made_itself m = and_from _ _ (itself m.action) (itself m.output)

or_right : (p q : Bool) → q ≡ true → (p || q) ≡ true
or_right true q e = refl
or_right false q e = e

or_left : (p q : Bool) → p ≡ true → (p || q) ≡ true
or_left true q e = refl
or_left false q e = absurd (cc)

-- one of the makers makes this output
abbrev some_makes : List Maker → ℕ → ℕ → Bool
some_makes ms a j = list_any (λ m. is_made m a j) ms

-- all of the makers are among the others
abbrev AreOf : List Maker → List Maker → Type 0
AreOf ms all = (a j : ℕ) → some_makes ms a j ≡ true → some_makes all a j ≡ true

kept : (o : Option Maker) (ms : List Maker) → AreOf ms (cons_option o ms)
kept None ms a j e = e
kept (Some m) ms a j e = or_right (is_made m a j) (some_makes ms a j) e

by_found : (all ms : List Maker) (bytes : List ℕ) (o : Option Maker)
    → AreOf (cons_option o ms) all → IsMadeBy all (origin_of o bytes)
by_found all ms bytes None more = tt
by_found all ms bytes (Some m) more =
    let own = is_made m m.action m.output in
    more m.action m.output (or_left own (some_makes ms m.action m.output) (made_itself m))

-- the inputs that are made are among these makers
abbrev AreMade : List Maker → List WorkInput → Type 0
AreMade all inputs = All (λ input. IsMadeBy all input.origin) inputs

module _ (before rest : List ListAction) (files : List SourceFile) (all : List Maker) where
  abbrev inputs_at : List (List ℕ) → List WorkInput
  inputs_at ps = map (work_input (maker_of (before ++ rest)) files) ps

  all_made : (ps : List (List ℕ)) → late_in rest ps ≡ None
      → AreOf (filter_map (maker_of before) ps) all → AreMade all (inputs_at ps)
  all_made [] none more = All-nil (λ (input : WorkInput). IsMadeBy all input.origin)
  all_made (p ∷ ps) none more =
      let P : WorkInput → Type 0 = λ input. IsMadeBy all input.origin in
      let input = work_input (maker_of (before ++ rest)) files p in
      let parts = not_found (is_among (outputs_of rest) p) p (late_in rest ps) none in
      let later = filter_map (maker_of before) ps in
      let here = by_found all later (bytes_at files p) (maker_of before p) more in
      let same = sym (same_maker before rest p parts.0) in
      let made : P input =
      subst (λ (o : Option Maker). IsMadeBy all (origin_of o (bytes_at files p))) same here in
      All-cons P input (inputs_at ps) made
      (all_made ps parts.1 (λ a j e. more a j (kept (maker_of before p) later a j e)))

-- ---- the work of one action

gives : (x : ListAction) (inputs : List WorkInput) (r : Result (List (List ℕ)) FlagFault)
    (w : WorkAction) → with_words x inputs r ≡ Ok w
    → (w.outputs ≡ x.outputs) × (w.inputs ≡ inputs)
gives x inputs (Ok words) w e =
    let same : work_action x inputs words ≡ w = cc in
    (ap (λ (v : WorkAction). v.outputs) (sym same), ap (λ (v : WorkAction). v.inputs) (sym same))
gives x inputs (Err f) w e = absurd (cc)

one_work : (before : List ListAction) (x : ListAction) (rest : List ListAction)
    (files : List SourceFile) (w : WorkAction) → orders_check before (x ∷ rest) ≡ Ok tt
    → leb (length x.outputs) 256 ≡ true
    → due_work (maker_of (before ++ x ∷ rest)) files x ≡ Ok w
    → IsWork x.outputs (filter_map (maker_of before) x.inputs) w
one_work before x rest files w ordered few due =
    let inputs = work_inputs (maker_of (before ++ x ∷ rest)) files x in
    let has = gives x inputs (due_words x inputs) w due in
    let all = filter_map (maker_of before) x.inputs in
    let none = none_later before x rest ordered in
    let made = all_made before (x ∷ rest) files all x.inputs none (λ a j e. e) in
    let most = leb-true (length x.outputs) 256 few in
    let fewer : length x.outputs < 2 ^ 32 = omega (arith, most) in record {
      same_outputs = has.0;
      few = subst (λ (os : List (List ℕ)). length os < 2 ^ 32) (sym has.0) fewer;
      made = subst (AreMade all) (sym has.1) made;
    }

-- ---- the work of all

-- the work of each of these actions is asked by it
abbrev IsEach : List PlanAction → List WorkAction → Type 0
IsEach ys ws =
    (a : ℕ) (y : PlanAction) (w : WorkAction) → slice_get ys a ≡ Some y → slice_get ws a ≡ Some w
    → IsWork y.outputs y.makers w

first_of : {X : Type 0} {a b : X} {xs ys : List X} → a ∷ xs ≡ b ∷ ys → a ≡ b
first_of e = cc

later_of : {X : Type 0} {a b : X} {xs ys : List X} → a ∷ xs ≡ b ∷ ys → xs ≡ ys
later_of e = cc

each_first : (y : PlanAction) (ys : List PlanAction) (w : WorkAction) (ws : List WorkAction)
    → IsWork y.outputs y.makers w → IsEach ys ws → IsEach (y ∷ ys) (w ∷ ws)
each_first y ys w ws here later zero z v planned at =
    let same : w ≡ v = cc in
    let action : y ≡ z = cc in
    subst (λ (x : PlanAction). IsWork x.outputs x.makers v) action
    (subst (λ (u : WorkAction). IsWork y.outputs y.makers u) same here)
each_first y ys w ws here later (suc a) z v planned at = later a z v planned at

abbrev have_few : List ListAction → Bool
have_few xs = list_all (λ x. leb (length x.outputs) 256) xs

-- these actions of the list have this work
abbrev HaveWork : List ListAction → List SourceFile → List ListAction → List WorkAction → Type 0
HaveWork xs files rest ws = map (due_work (maker_of xs) files) rest ≡ map (λ w. Ok w) ws

each_work : (keys : List (List ℕ)) (files : List SourceFile) (xs before rest : List ListAction)
    (ws : List WorkAction) → xs ≡ before ++ rest → orders_check before rest ≡ Ok tt
    → have_few rest ≡ true → HaveWork xs files rest ws → IsEach (plan_actions keys before rest) ws
each_work keys files xs before [] [] is ordered few due = λ a y w planned at. absurd (cc)
each_work keys files xs before [] (w ∷ ws) is ordered few due = absurd (cc)
each_work keys files xs before (x ∷ rest) [] is ordered few due = absurd (cc)
each_work keys files xs before (x ∷ rest) (w ∷ ws) is ordered few due =
    let parts = and_parts (leb (length x.outputs) 256) (have_few rest) few in
    let own : due_work (maker_of xs) files x ≡ Ok w = first_of due in
    let Due : List ListAction → Type 0 = λ zs. due_work (maker_of zs) files x ≡ Ok w in
    let here = one_work before x rest files w ordered parts.0 (subst Due is own) in
    let on : xs ≡ (before ++ x ∷ []) ++ rest = is ∙ sym (append_assoc before (x ∷ []) rest) in
    let fine = others_fine before x rest ordered in
    let later =
    each_work keys files xs (before ++ x ∷ []) rest ws on fine parts.1 (later_of due) in
    each_first (plan_action keys before x) (plan_actions keys (before ++ x ∷ []) rest) w ws here
    later

as_many : (xs : List ListAction) (files : List SourceFile) (rest : List ListAction)
    (ws : List WorkAction) → HaveWork xs files rest ws → length ws ≡ length rest
as_many xs files [] [] due = refl
as_many xs files [] (w ∷ ws) due = absurd (cc)
as_many xs files (x ∷ rest) [] due = absurd (cc)
as_many xs files (x ∷ rest) (w ∷ ws) due = ap suc (as_many xs files rest ws (later_of due))

as_many_planned : (keys : List (List ℕ)) (before xs : List ListAction)
    → length (plan_actions keys before xs) ≡ length xs
as_many_planned keys before [] = refl
as_many_planned keys before (x ∷ xs) = ap suc (as_many_planned keys (before ++ x ∷ []) xs)

abbrev IsWorkOfAll : List PlanAction → List WorkAction → Type 0
IsWorkOfAll ys ws = (length ws ≡ length ys) × IsEach ys ws

pub all_work : (keys : List (List ℕ)) (files : List SourceFile) (xs : List ListAction)
    (ws : List WorkAction) → orders_check [] xs ≡ Ok tt → have_few xs ≡ true
    → HaveWork xs files xs ws → IsWorkOfAll (plan_actions keys [] xs) ws
all_work keys files xs ws ordered few due = (
  as_many xs files xs ws due ∙ sym (as_many_planned keys [] xs),
  each_work keys files xs [] xs ws refl ordered few due,
)
