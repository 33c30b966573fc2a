use Rattle.std.proofs.Common.{◌≡◌, ℕ, nat_eq, List, length, set, Some, refl, ap, sym, subst, ◌∙◌}
use Rattle.std.specs.Prelude.{slice_get}
use Rattle.std.proofs.lemmas.Option.{slice_get_read, same_Some}
use Rattle.ready_order.specs.declared.ActionState.{ActionState}
use Rattle.ready_order.specs.Facts.{Facts}
use Rattle.ready_order.specs.Queue.{has_success, is_ready}
use Rattle.ready_order.specs.Board.{Fits, IsRight, SameOf, shapes, supplied_by}
use Rattle.ready_order.proofs.Fronts.{all_by_front}
use Rattle.ready_order.proofs.Noted.{refreshed, has_room, local_named, remote_named, posted_groups, posted_sizes, is_refreshed, refreshed_fits, refreshed_right, refreshed_others}
use Rattle.ready_order.proofs.board.Board.note.Goals as goal

pub post-requires : goal.post-requires
post-requires c =
    let x = c.index-actions-number.result in
    let here = slice_get_read c.args.actions.now
    (length c.args.actions.now) c.args.number x refl c.requires.known c.index-actions-number.is in
    rw (ap (λ (h : Facts). h.queues) c.self.view_is)
    (has_room c.args.actions.now c.args.self.now c.args.number x here c.requires.fits
    c.args.self.now.queues c.requires.fits.queues refl x.local.group
    (local_named c.args.actions.now c.args.self.now c.args.number x here c.requires.fits))

pub post-requires-2 : goal.post-requires-2
post-requires-2 c =
    let x = c.index-actions-number.result in
    let here = slice_get_read c.args.actions.now
    (length c.args.actions.now) c.args.number x refl c.requires.known c.index-actions-number.is in
    let ready = nat_eq c.supplied_from-supplied.result (length c.as_slice-producers.result.now) in
    let was : c.self.inside.queues ≡ c.args.self.now.queues =
    ap (λ (h : Facts). h.queues) c.self.view_is in
    let groups : length c.post.new.self ≡ length c.args.self.now.queues =
    rw (c.post.ensures, was)
    (posted_groups c.args.number x ready c.args.self.now.queues x.local.group) in
    let sizes : (g : ℕ) (q : List ℕ) → slice_get c.post.new.self g ≡ Some q → length q ≡ length
    (shapes c.args.actions.now) =
    rw (c.post.ensures, was) (posted_sizes c.args.number x ready c.args.self.now.queues
    x.local.group (length (shapes c.args.actions.now)) c.requires.fits.queues) in
    has_room c.args.actions.now c.args.self.now c.args.number x here c.requires.fits
    c.post.new.self sizes groups x.remote.group
    (remote_named c.args.actions.now c.args.self.now c.args.number x here c.requires.fits)

pub returns : goal.returns
returns c =
    let states = c.args.actions.now in
    let a = c.args.number in
    let x = c.index-actions-number.result in
    let here = slice_get_read states
    (length states) a x refl c.requires.known c.index-actions-number.is in
    let f : Facts = record {
      supplied = c.self.inside.supplied.items;
      waiting = c.self.inside.waiting;
      queues = c.self.inside.queues;
    } in
    let fits = subst (Fits (shapes states)) (sym c.self.view_is) c.requires.fits in
    let ready = nat_eq c.supplied_from-supplied.result (length c.as_slice-producers.result.now) in
    let is_front = c.supplied_from-supplied.ensures ∙ ap
    (supplied_by states) c.as_slice-producers.ensures in
    let is_ready : ready ≡ is_ready states x =
    rw (is_front, c.as_slice-producers.ensures) (all_by_front (has_success states) x.producers) in
    let now : Facts = record {
      supplied = set f.supplied a c.supplied_from-supplied.result;
      waiting = c.put.new.self;
      queues = c.post-2.new.self;
    } in
    let told : now ≡ refreshed states f a x =
    is_refreshed states f a x c.supplied_from-supplied.result c.mark.result ready
    c.waits.result c.put.new.self f.queues c.post.new.self c.post.new.self c.post-2.new.self
    is_front is_ready c.waits.ensures c.mark.ensures c.put.ensures refl c.post.ensures refl
    c.post-2.ensures in
    record {
      fits = subst (Fits (shapes states)) (sym told) (refreshed_fits states f a x here fits);
      right = λ y k.
          let same : x ≡ y = same_Some x y (sym here ∙ k) in
          subst (λ (h : Facts). IsRight states h a y) (sym told)
          (subst (λ (z : ActionState). IsRight states (refreshed states f a x) a z) same
          (refreshed_right states f a x here fits));
      others = λ n apart.
          subst (λ (h : Facts). SameOf c.args.self.now h n) (sym told)
          (subst (λ (h : Facts). SameOf h (refreshed states f a x) n) c.self.view_is
          (refreshed_others states f a x here fits n apart));
    }
