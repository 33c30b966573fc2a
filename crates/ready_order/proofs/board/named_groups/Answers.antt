use Rattle.std.proofs.Common.{◌≡◌, ◌≤◌, true, length, Some, refl, ap, sym, ◌∙◌, arith, inl, inr}
use Rattle.std.specs.Prelude.{slice_get, option_map}
use Rattle.std.proofs.lemmas.Bool.{or_cases, cases_lt}
use Rattle.std.proofs.lemmas.Option.{slice_get-map, slice_get_read, slice_get_within, same_Some}
use Rattle.std.proofs.lemmas.List.{length-map}
use Rattle.ready_order.specs.Board.{is_named, names, shape_of, shapes}
use Rattle.ready_order.proofs.board.named_groups.Goals as goal

pub loop-action-preserved : goal.loop-action-preserved
loop-action-preserved c =
    let states = c.args.actions.now in
    let x = c.action-item.result in
    let i = c.loop-action.action-index in
    let here : slice_get states i ≡ Some x = slice_get_read states
    (length states) i x refl c.loop-action-test.true c.action-item.is in
    let shape : slice_get (shapes states) i ≡ Some (shape_of x) = slice_get-map shape_of states i
    ∙ ap (option_map shape_of) here in
    let first = c.past_group.ensures in
    let second = c.past_group-groups.ensures in
    let more : c.past_group.result ≤ c.past_group-groups.result = second.more in
    record {
      small = second.small (first.small c.loop-action.invariant.small);
      named = λ a g s lt h n.
          elim (cases_lt a i) [
            | inl below ↦
                (let old = c.loop-action.invariant.named a g s below h n in let m = first.more in
                omega arith)
            | inr past ↦
                (let same : a ≡ i = omega arith in
                let here' : slice_get (shapes states) i ≡ Some s = rw same at h in
                let is : shape_of x ≡ s = same_Some (shape_of x) s (sym shape ∙ here') in
                let named : names g (shape_of x) ≡ true = ap (names g) is ∙ n in
                elim (or_cases (is_named g x.local.group) (is_named g x.remote.group) named) [
                  | inl local ↦ (let lt = first.named g local in omega arith)
                  | inr remote ↦ second.named g remote
                ])
          ];
    }

pub returns-clause-named : goal.returns-clause-named
returns-clause-named c = λ a g s h n.
    let w = slice_get_within (shapes c.args.actions.now) a s h in
    let size = length-map c.args.actions.now shape_of in
    let past = c.loop-action-test.false in
    c.loop-action.invariant.named a g s (omega arith) h n
