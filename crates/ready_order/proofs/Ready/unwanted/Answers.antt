use Rattle.std.proofs.Common.{◌<◌, List, length, refl, subst, ◌∙◌}
use Rattle.ready_order.specs.declared.ActionState.{ActionState}
use Rattle.ready_order.specs.Queue.{granted_state}
use Rattle.ready_order.specs.Board.{Fits, RightAt, shapes}
use Rattle.ready_order.proofs.States.{fits_kept, known_kept, noted_again}
use Rattle.ready_order.proofs.Written.{written}
use Rattle.ready_order.proofs.Ready.unwanted.Goals as goal

pub refresh-requires-clause-fits : goal.refresh-requires-clause-fits
refresh-requires-clause-fits c =
    let lt : c.args.action < length c.self.inside.actions.items = rw c.self.view_is c.requires in
    let is = written granted_state _ _ c.args.action c.index_mut.result.now _ refl lt
    c.index_mut.ensures.value c.grant.ensures in
    rw (c.as_slice.ensures.value, is)
    (fits_kept granted_state (λ y. refl) (λ y. refl) c.self.inside.actions.items
    c.self.inside.users c.self.inside.board c.args.action c.self.invariant)

pub refresh-requires-clause-low : goal.refresh-requires-clause-low
refresh-requires-clause-low c =
    let lt : c.args.action < length c.self.inside.actions.items = rw c.self.view_is c.requires in
    let is = written granted_state _ _ c.args.action c.index_mut.result.now _ refl lt
    c.index_mut.ensures.value c.grant.ensures in
    rw (c.as_slice.ensures.value, is)
    (known_kept granted_state (λ y. refl) (λ y. refl) c.self.inside.actions.items
    c.self.inside.users c.self.inside.board c.args.action c.self.invariant)

pub invariant_of-self : goal.invariant_of-self
invariant_of-self c =
    let lt : c.args.action < length c.self.inside.actions.items = rw c.self.view_is c.requires in
    let is = written granted_state _ _ c.args.action c.index_mut.result.now _ refl lt
    c.index_mut.ensures.value c.grant.ensures in
    let whole = c.as_slice.ensures.value ∙ is in
    let h = c.refresh.new.self in
    rw is
    (noted_again granted_state (λ y. refl) (λ y. refl) c.self.inside.actions.items
    c.self.inside.users c.self.inside.board c.args.action c.self.invariant h
    (subst (λ (ss : List ActionState). Fits (shapes ss) h) whole c.refresh.ensures.fits)
    (subst (λ (ss : List ActionState). RightAt ss h c.args.action) whole c.refresh.ensures.right)
    c.refresh.ensures.others)

pub returns : goal.returns
returns c =
    written granted_state _ _ c.args.action c.index_mut.result.now _ c.self.view_is
    c.requires c.index_mut.ensures.value c.grant.ensures
