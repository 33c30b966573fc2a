-- The place of a path when one more action has been noted.
use Rattle.std.proofs.Common.{◌≡◌, ℕ, ◌+◌, List, [], ◌∷◌, ◌++◌, length, Option, None, sym, ap, ◌∙◌, arith}
use Rattle.run_plan.specs.declared.plan.Maker.{Maker}
use Rattle.list_actions.specs.declared.types.ListAction.{ListAction}
use Rattle.list_actions.specs.Made.{maker_of, producer_from, producer_in}

pub producer_from-append : (found : Option Maker) (p : List ℕ) (a : ℕ) (xs : List ListAction) (x : ListAction)
    → producer_from found p a (xs ++ x ∷ []) ≡ producer_in (producer_from found p a xs) p (a + length xs) 0 x.outputs
producer_from-append found p a [] x =
    let here : a + 0 ≡ a = omega arith in ap (λ n. producer_in found p n 0 x.outputs) (sym here)
producer_from-append found p a (y ∷ ys) x =
    let count : (a + 1) + length ys ≡ a + length (y ∷ ys) = omega arith in
    producer_from-append (producer_in found p a 0 y.outputs) p (a + 1) ys x
    ∙ ap (λ n. producer_in (producer_from (producer_in found p a 0 y.outputs) p (a + 1) ys) p n 0 x.outputs) count

pub more_producers : (before : List ListAction) (x : ListAction) (number : ℕ) (q : List ℕ) {found now : Option Maker} → number ≡ length before
    → found ≡ maker_of before q → now ≡ producer_in found q number 0 x.outputs → now ≡ maker_of (before ++ x ∷ []) q
more_producers before x number q {found} {now} same known noted =
    let whole : number ≡ 0 + length before = omega arith in
    noted ∙ ap (λ f. producer_in f q number 0 x.outputs) known ∙ ap (λ n. producer_in (maker_of before q) q n 0 x.outputs) whole
    ∙ sym (producer_from-append None q 0 before x)
