use Rattle.std.proofs.Common.{◌<◌, List, length, refl, subst, ◌∙◌}
use Rattle.ready_order.specs.declared.ActionState.{ActionState}
use Rattle.ready_order.specs.Queue.{state_with}
use Rattle.ready_order.specs.Board.{Fits, RightAt, shapes}
use Rattle.ready_order.proofs.States.{free_same, free_own, fits_kept, known_kept, noted_again}
use Rattle.ready_order.proofs.Written.{written}
use Rattle.ready_order.proofs.Ready.set_free.Goals as goal

pub refresh-requires-clause-fits : goal.refresh-requires-clause-fits
refresh-requires-clause-fits c =
    let g = state_with c.args.branch c.args.free in
    let lt : c.args.action < length c.self.inside.actions.items = rw c.self.view_is c.requires in
    let is = written g _ _ c.args.action c.index_mut.result.now _ refl lt
    c.index_mut.ensures.value c.set_free.ensures in
    rw (c.as_slice.ensures.value, is)
    (fits_kept g (free_same c.args.branch c.args.free) (free_own c.args.branch c.args.free)
    c.self.inside.actions.items c.self.inside.users c.self.inside.board c.args.action
    c.self.invariant)

pub refresh-requires-clause-low : goal.refresh-requires-clause-low
refresh-requires-clause-low c =
    let g = state_with c.args.branch c.args.free in
    let lt : c.args.action < length c.self.inside.actions.items = rw c.self.view_is c.requires in
    let is = written g _ _ c.args.action c.index_mut.result.now _ refl lt
    c.index_mut.ensures.value c.set_free.ensures in
    rw (c.as_slice.ensures.value, is)
    (known_kept g (free_same c.args.branch c.args.free) (free_own c.args.branch c.args.free)
    c.self.inside.actions.items c.self.inside.users c.self.inside.board c.args.action
    c.self.invariant)

pub invariant_of-self : goal.invariant_of-self
invariant_of-self c =
    let g = state_with c.args.branch c.args.free in
    let lt : c.args.action < length c.self.inside.actions.items = rw c.self.view_is c.requires in
    let is = written g _ _ c.args.action c.index_mut.result.now _ refl lt
    c.index_mut.ensures.value c.set_free.ensures in
    let whole = c.as_slice.ensures.value ∙ is in
    let h = c.refresh.new.self in
    rw is
    (noted_again g (free_same c.args.branch c.args.free) (free_own c.args.branch c.args.free)
    c.self.inside.actions.items c.self.inside.users c.self.inside.board c.args.action
    c.self.invariant h
    (subst (λ (ss : List ActionState). Fits (shapes ss) h) whole c.refresh.ensures.fits)
    (subst (λ (ss : List ActionState). RightAt ss h c.args.action) whole c.refresh.ensures.right)
    c.refresh.ensures.others)

pub returns : goal.returns
returns c = written
    (state_with c.args.branch c.args.free) _ _ c.args.action c.index_mut.result.now
    c.set_free.new.self c.self.view_is c.requires c.index_mut.ensures.value c.set_free.ensures
