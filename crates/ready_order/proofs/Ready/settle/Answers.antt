use Rattle.std.proofs.Common.{◌≡◌, ◌<◌, ℕ, true, List, length, refl, subst, ◌∙◌}
use Rattle.ready_order.specs.declared.ActionState.{ActionState}
use Rattle.ready_order.specs.Queue.{settled_state}
use Rattle.ready_order.specs.Board.{Fits, RightAt, is_in, shapes}
use Rattle.ready_order.proofs.Settled.{settled_fits, settled_known, followed_known, settled_noted}
use Rattle.ready_order.proofs.Written.{written}
use Rattle.ready_order.proofs.Ready.settle.Goals as goal

pub follow-requires-clause-fits : goal.follow-requires-clause-fits
follow-requires-clause-fits c =
    let lt : c.args.action < length c.self.inside.actions.items = rw c.self.view_is c.requires in
    let is = written (settled_state c.args.success) _ _ c.args.action c.index_mut.result.now _ refl
    lt c.index_mut.ensures.value c.settle.ensures in
    rw (c.as_slice-2.ensures.value, is)
    (settled_fits c.args.success _ _ _ c.args.action c.self.invariant lt _ c.as_slice.ensures.value
    _ c.affected-users.ensures)

pub follow-requires-clause-low : goal.follow-requires-clause-low
follow-requires-clause-low c =
    let lt : c.args.action < length c.self.inside.actions.items = rw c.self.view_is c.requires in
    let is = written (settled_state c.args.success) _ _ c.args.action c.index_mut.result.now _ refl
    lt c.index_mut.ensures.value c.settle.ensures in
    rw (c.as_slice-2.ensures.value, is)
    (settled_known c.args.success _ _ _ c.args.action c.self.invariant lt _ c.as_slice.ensures.value
    _ c.affected-users.ensures)

pub refresh-requires-clause-low : goal.refresh-requires-clause-low
refresh-requires-clause-low c =
    let lt : c.args.action < length c.self.inside.actions.items = rw c.self.view_is c.requires in
    let is = written (settled_state c.args.success) _ _ c.args.action c.index_mut.result.now _ refl
    lt c.index_mut.ensures.value c.settle.ensures in
    let us = c.affected-users.result.now in
    let h = c.follow.new.self in
    rw (c.as_slice-3.ensures.value, is)
    (followed_known c.args.success _ _ _ c.args.action c.self.invariant lt _
    c.as_slice.ensures.value us c.affected-users.ensures h
    (subst (λ (ss : List ActionState). (n : ℕ) → is_in n us ≡ true → RightAt ss h n)
    (c.as_slice-2.ensures.value ∙ is) c.follow.ensures.users)
    c.follow.ensures.others)

pub invariant_of-self : goal.invariant_of-self
invariant_of-self c =
    let lt : c.args.action < length c.self.inside.actions.items = rw c.self.view_is c.requires in
    let is = written (settled_state c.args.success) _ _ c.args.action c.index_mut.result.now _ refl
    lt c.index_mut.ensures.value c.settle.ensures in
    let us = c.affected-users.result.now in
    let h = c.follow.new.self in
    let k = c.refresh.new.self in
    let last = c.as_slice-3.ensures.value ∙ is in
    rw is
    (settled_noted c.args.success _ _ _ c.args.action c.self.invariant lt _
    c.as_slice.ensures.value us c.affected-users.ensures h
    (subst (λ (ss : List ActionState). (n : ℕ) → is_in n us ≡ true → RightAt ss h n)
    (c.as_slice-2.ensures.value ∙ is) c.follow.ensures.users)
    c.follow.ensures.others k
    (subst (λ (ss : List ActionState). Fits (shapes ss) k) last c.refresh.ensures.fits)
    (subst (λ (ss : List ActionState). RightAt ss k c.args.action) last c.refresh.ensures.right)
    c.refresh.ensures.others)

pub returns : goal.returns
returns c =
    written (settled_state c.args.success) _ _ c.args.action c.index_mut.result.now _
    c.self.view_is c.requires c.index_mut.ensures.value c.settle.ensures
