use Rattle.std.proofs.Common.{◌≡◌, ◌==◌, List, length, Option, Some, None, false, refl, option_map, unwrap_or, ap, sym, subst, ◌∙◌}
use Rattle.std.specs.Prelude.{slice_get}
use Rattle.std.proofs.lemmas.Option.{get_or_from_slice_get, slice_get_past, slice_get_read}
use Rattle.std.proofs.lemmas.Bool.{ltb-false}
use Rattle.ready_order.specs.declared.ActionState.{ActionState}
use Rattle.ready_order.specs.Board.{supplied_by}
use Rattle.ready_order.specs.Queue.{has_success, is_ready, is_ready_at}
use Rattle.ready_order.proofs.Fronts.{all_by_front}
use Rattle.ready_order.proofs.Ready.is_ready.Goals as goal

pub returns-in-Some : goal.returns-in-Some
returns-in-Some c =
    let states = c.self.inside.actions.items in
    let a = c.args.action in
    let x = c.in-Some.state.now in
    let there = c.deref.result.now in
    let found = c.in-Some.ensures.lookup in
    let at : slice_get states a ≡ Some x =
    subst (λ (ss : List ActionState). slice_get ss a ≡ Some x) c.deref.ensures.value
    (slice_get_read there (length there) a x refl found.3.0 found.1) in
    let noted = get_or_from_slice_get c.self.inside.board.supplied a
    (supplied_by states x.producers) 0 (c.self.invariant.right a x at).supplied in
    let ready : c.has_supplied.result ≡ is_ready states x =
    c.has_supplied.ensures ∙ (λ i. noted i == length (c.as_slice.ensures i))
    ∙ all_by_front (has_success states) x.producers in
    subst (λ (ss : List ActionState). c.has_supplied.result ≡ is_ready_at ss a) c.self.view_is
    (ready ∙ sym (ap (λ (o : Option ActionState). unwrap_or (option_map (is_ready states) o) false)
    at))

pub returns-in-None : goal.returns-in-None
returns-in-None c =
    let there = c.deref.result.now in
    let a = c.args.action in
    let past : slice_get there a ≡ None =
    slice_get_past there a (ltb-false a (length there) (sym c.in-None.ensures.lookup.0)) in
    subst (λ (ss : List ActionState). false ≡ is_ready_at ss a) (c.deref.ensures.value ∙ c.self.view_is)
    (ap (λ (o : Option ActionState). unwrap_or (option_map (is_ready there) o) false) (sym past))
