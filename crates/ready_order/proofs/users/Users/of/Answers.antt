use Rattle.std.proofs.Common.{◌≡◌, ℕ, ◌+◌, List, length, map, Vec, Global, Some, option_map, refl, ap, sym, subst, ◌∙◌}
use Rattle.std.specs.Prelude.{slice_get}
use Rattle.std.proofs.lemmas.List.{with_items_is}
use Rattle.std.proofs.lemmas.Option.{slice_get_read, slice_get-map}
use Rattle.ready_order.specs.Board.{AreUsers, IsAdded, shape_of, shapes}
use Rattle.ready_order.proofs.UsersAdded.{users_more}
use Rattle.ready_order.proofs.users.Users.of.Goals as goal

abbrev items : Vec ℕ Global → List ℕ
items v = v.items

pub loop-number-preserved : goal.loop-number-preserved
loop-number-preserved c =
    let states = c.args.actions.now in
    let i = c.loop-number.number in
    let x = c.index-actions-number.result in
    let lists = c.loop-number.lists in
    let new = c.add_user.new.lists in
    let here : slice_get states i ≡ Some x = slice_get_read states
    (length states) i x refl c.loop-number-test.true c.index-actions-number.is in
    let shape : slice_get (shapes states) i ≡ Some (shape_of x) = slice_get-map shape_of states i
    ∙ ap (option_map shape_of) here in
    let value = c.deref_mut.ensures.value in
    let len : length new ≡ lists.len = c.add_user.auto.lists ∙ c.deref_mut.ensures.len in
    let whole = with_items_is lists new len in
    let P : List (List ℕ) → Type 0 = λ now. AreUsers (shapes states) (i + 1) now in
    let Q : List ℕ → Type 0 = λ ps. IsAdded ps i (map items lists.items) (map items new) in
    let R : List (List ℕ) → Type 0 = λ old. IsAdded c.as_slice.result.now i old (map items new) in
    let added : IsAdded x.producers i (map items lists.items) (map items new) =
    subst Q c.as_slice.ensures (subst R (ap (map items) value) (c.in_ok-add_user.ensures {u =
    tt})) in
    subst P (sym (ap (map items) whole)) (users_more (shapes states) i (shape_of x)
    (map items lists.items) (map items new) c.loop-number.invariant shape added)
