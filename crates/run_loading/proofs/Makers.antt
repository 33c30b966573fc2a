-- In a whole list what makes an input stands before the action that has it.
use Rattle.std.proofs.Common.{◌≡◌, ℕ, ◌+◌, List, [], ◌∷◌, ◌++◌, length, find, Bool, true, false, cond, ◌||◌, Option, Some, None, Ok, Err, refl, ap, sym, ◌∙◌, arith}
use Rattle.std.specs.List.{All}
use Rattle.std.specs.Str.{bytes_eq}
use Rattle.std.proofs.lemmas.List.Elements.{All-cons, All-nil, All-weaker}
use Rattle.run_plan.specs.declared.plan.Maker.{Maker}
use Rattle.list_actions.specs.Answers.{Check, first}
use Rattle.list_actions.specs.Order.{is_among, outputs_of, first_again, name_twice, made_twice, made_later, order_check, orders_check}
use Rattle.list_actions.specs.Made.{maker_of, producer_from, producer_in}
use Rattle.list_actions.specs.Whole.{IsWhole}
use Rattle.list_actions.specs.declared.types.ListAction.{ListAction}
use Rattle.list_actions.proofs.Firsts.{first_one}
use Rattle.list_actions.proofs.Late.{is_among-append}

-- ---- paths that aren't made

both_false : (a b : Bool) → (a || b) ≡ false → (a ≡ false) × (b ≡ false)
both_false true b e = absurd cc
both_false false b e = (refl, e)

-- other outputs leave what was found before
other_outputs : (found : Option Maker) (p : List ℕ) (a j : ℕ) (us : List (List ℕ)) → is_among us p ≡ false
    → producer_in found p a j us ≡ found
other_outputs found p a j [] e = refl
other_outputs found p a j (u ∷ us) e =
    let h = both_false (bytes_eq u p) (is_among us p) e in
    ap (λ (b : Bool). producer_in (cond b (Some (record { action = a; output = j })) found) p a (j + 1) us) h.0
    ∙ other_outputs found p a (j + 1) us h.1

other_actions : (found : Option Maker) (p : List ℕ) (a : ℕ) (xs : List ListAction) → is_among (outputs_of xs) p ≡ false
    → producer_from found p a xs ≡ found
other_actions found p a [] e = refl
other_actions found p a (x ∷ xs) e =
    let split = is_among-append x.outputs (outputs_of xs) p in
    let h = both_false (is_among x.outputs p) (is_among (outputs_of xs) p) (sym split ∙ e) in
    ap (λ (f : Option Maker). producer_from f p (a + 1) xs) (other_outputs found p a 0 x.outputs h.0)
    ∙ other_actions found p (a + 1) xs h.1

-- actions and then further ones
producer_on : (found : Option Maker) (p : List ℕ) (a : ℕ) (xs ys : List ListAction)
    → producer_from found p a (xs ++ ys) ≡ producer_from (producer_from found p a xs) p (a + length xs) ys
producer_on found p a [] ys =
    let here : a + 0 ≡ a = omega arith in ap (λ n. producer_from found p n ys) (sym here)
producer_on found p a (x ∷ xs) ys =
    let count : (a + 1) + length xs ≡ a + length (x ∷ xs) = omega arith in
    let now = producer_in found p a 0 x.outputs in
    producer_on now p (a + 1) xs ys ∙ ap (λ n. producer_from (producer_from now p (a + 1) xs) p n ys) count

-- ---- checks without a fault

fine : (check : Check) (later : List Check) → first (check ∷ later) ≡ Ok tt → (check ≡ Ok tt) × (first later ≡ Ok tt)
fine (Ok tt) later e = (refl, e)
fine (Err f) later e = absurd cc

not_later : (a : ℕ) (o : Option (List ℕ)) → made_later a o ≡ Ok tt → o ≡ None
not_later a None e = refl
not_later a (Some path) e = absurd cc

-- no input of this action is made by it or a later one
in_order : (front before : List ListAction) (x : ListAction) (rest : List ListAction)
    → orders_check front (before ++ x ∷ rest) ≡ Ok tt → find (is_among (outputs_of (x ∷ rest))) x.inputs ≡ None
in_order front [] x rest e =
    let n = length front in
    let late = find (is_among (outputs_of (x ∷ rest))) x.inputs in
    let own = (fine (order_check front x (x ∷ rest)) _ e).0 in
    let named = (fine (name_twice n front x) _ own).1 in
    let made = (fine (made_twice n (first_again (outputs_of front) x.outputs)) _ named).1 in
    not_later n late (fine (made_later n late) [] made).0
in_order front (y ∷ before) x rest e =
    let later = (fine (order_check front y (y ∷ (before ++ x ∷ rest))) _ e).1 in
    in_order (front ++ y ∷ []) before x rest
    (sym (first_one (orders_check (front ++ y ∷ []) (before ++ x ∷ rest))) ∙ later)

module _ {X : Type 0} where
  not_first : (b : Bool) (x : X) (o : Option X) → cond b (Some x) o ≡ None → (b ≡ false) × (o ≡ None)
  not_first true x o e = absurd cc
  not_first false x o e = (refl, e)

  none_found : (p : X → Bool) (xs : List X) → find p xs ≡ None → All (λ x. p x ≡ false) xs
  none_found p [] e = All-nil (λ x. p x ≡ false)
  none_found p (x ∷ xs) e =
      let h = not_first (p x) x (find p xs) e in
      All-cons (λ y. p y ≡ false) x xs h.0 (none_found p xs h.1)

-- ---- inputs

pub made_before : (before : List ListAction) (x : ListAction) (rest : List ListAction) → IsWhole (before ++ x ∷ rest)
    → All (λ p. maker_of (before ++ x ∷ rest) p ≡ maker_of before p) x.inputs
made_before before x rest whole =
    All-weaker (λ p. is_among (outputs_of (x ∷ rest)) p ≡ false) (λ p. maker_of (before ++ x ∷ rest) p ≡ maker_of before p)
    (λ p none. producer_on None p 0 before (x ∷ rest) ∙ other_actions (maker_of before p) p (0 + length before) (x ∷ rest) none)
    x.inputs (none_found (is_among (outputs_of (x ∷ rest))) x.inputs (in_order [] before x rest whole.ordered))
