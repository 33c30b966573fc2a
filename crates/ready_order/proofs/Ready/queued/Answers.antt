use Rattle.std.proofs.Common.{◌≡◌, ◌<◌, ◌==◌, List, length, refl, ap, sym, subst, ◌∙◌}
use Rattle.std.specs.Prelude.{option_and_then}
use Rattle.std.proofs.lemmas.Option.{slice_get_read, get_or_from_slice_get}
use Rattle.ready_order.specs.declared.ActionState.{ActionState}
use Rattle.ready_order.specs.Board.{queued_if, supplied_by}
use Rattle.ready_order.specs.Queue.{has_success, is_ready, queued_at, queued_branch}
use Rattle.ready_order.proofs.Fronts.{all_by_front}
use Rattle.ready_order.proofs.Ready.queued.Goals as goal

pub returns : goal.returns
returns c =
    let states = c.self.inside.actions.items in
    let a = c.args.action in
    let g = c.args.group in
    let x = c.index-state.result.now in
    let lt : a < length states =
    subst (λ (ss : List ActionState). a < length ss) (sym c.self.view_is) c.requires in
    let at = slice_get_read states (length states) a x refl lt c.index-state.ensures in
    let noted = get_or_from_slice_get c.self.inside.board.supplied a
    (supplied_by states x.producers) 0 (c.self.invariant.right a x at).supplied in
    let ready : c.has_supplied-ready.result ≡ is_ready states x =
    c.has_supplied-ready.ensures ∙ (λ i. noted i == length (c.as_slice.ensures i))
    ∙ all_by_front (has_success states) x.producers in
    subst (λ (ss : List ActionState). c.queued_if.result ≡ queued_at ss g a) c.self.view_is
    (c.queued_if.ensures ∙ ap (λ r. queued_if r g x) ready
    ∙ sym (ap (option_and_then (queued_branch states g)) at))
