-- What is noted of an action once its state is noted again.
use Rattle.std.proofs.Common.{◌≡◌, ℕ, ◌<◌, ◌≢◌, Bool, true, false, ◌&&◌, not, List, [], length, get_or, set, Option, Some, None, inl, inr, is_some, option_map, refl, ap, sym, ◌∙◌, arith, length-set, IfSome}
use Rattle.std.specs.Prelude.{slice_get}
use Rattle.std.proofs.lemmas.Bool.{eqb-true, or_parts, or_left, or_right, or_from, eqb-false, eq-eqb, cases_eq}
use Rattle.std.proofs.lemmas.Option.{slice_get-get_or, slice_get-map, slice_get_within}
use Rattle.exec_journal.specs.Settled.{is_settled}
use Rattle.exec_journal.proofs.Ruled.{by_bool}
use Rattle.ready_order.specs.declared.winner_tree.TheConstants.{ABSENT}
use Rattle.ready_order.specs.declared.ActionState.{ActionState}
use Rattle.ready_order.specs.Facts.{Facts}
use Rattle.ready_order.specs.Queue.{is_of, is_ready}
use Rattle.ready_order.specs.Board.{Fits, IsRight, SameOf, has_queued, is_named, mark, names, place, posted, queued_if, shape_of, shapes, supplied_by}
use Rattle.ready_order.proofs.Places.{set_here, set_beside, written_here, written_beside, written_elsewhere, written_sizes}

-- ---- what is noted in the queue of one group

module _ (a : ℕ) (x : ActionState) (r : Bool) where
  pub posted_groups : (qs : List (List ℕ)) (o : Option ℕ) → length (posted qs o a x r) ≡ length qs
  posted_groups qs None = refl
  posted_groups qs (Some g) = length-set qs g _

  posted_beside : (qs : List (List ℕ)) (o : Option ℕ) (g c : ℕ) → c ≢ a
      → place (posted qs o a x r) g c ≡ place qs g c
  posted_beside qs None g c apart = refl
  posted_beside qs (Some k) g c apart = written_beside qs k a (mark a (is_some
      (queued_if r k x))) c g apart

  posted_elsewhere : (qs : List (List ℕ)) (o : Option ℕ) (g : ℕ) → is_named g o ≡ false
      → place (posted qs o a x r) g a ≡ place qs g a
  posted_elsewhere qs None g other = refl
  posted_elsewhere qs (Some k) g other =
      written_elsewhere qs k a (mark a (is_some (queued_if r k x))) g a (λ e. eqb-false k g other
      (sym e))

  posted_here : (qs : List (List ℕ)) (o : Option ℕ) (g : ℕ) → is_named g o ≡ true → g < length qs
      → a < length (get_or qs g [])
      → place (posted qs o a x r) g a ≡ Some (mark a (is_some (queued_if r g x)))
  posted_here qs None g same lt within = absurd (cc)
  posted_here qs (Some k) g same lt within =
      let e = eqb-true k g same in
      rw e (written_here qs g a (mark a (is_some (queued_if r g x))) lt within)

  pub posted_sizes : (qs : List (List ℕ)) (o : Option ℕ) (n : ℕ)
      → ((g : ℕ) (q : List ℕ) → slice_get qs g ≡ Some q → length q ≡ n)
      → (g : ℕ) (q : List ℕ) → slice_get (posted qs o a x r) g ≡ Some q → length q ≡ n
  posted_sizes qs None n sizes = sizes
  posted_sizes qs (Some k) n sizes = written_sizes qs k a (mark a (is_some
      (queued_if r k x))) n sizes

  not_queued : (g : ℕ) → is_of g x.local ≡ false → is_of g x.remote ≡ false
      → is_some (queued_if r g x) ≡ false
  not_queued g left right = rw (left, right) refl

-- ---- what is noted of the action

abbrev pub refreshed : List ActionState → Facts → ℕ → ActionState → Facts
refreshed states f a x = record {
  supplied = set f.supplied a (supplied_by states x.producers);
  waiting = set f.waiting a (mark a (not (is_settled x.own) && is_ready states x));
  queues = posted (posted f.queues x.local.group a x (is_ready states x)) x.remote.group a x
      (is_ready states x);
}

module _ (states : List ActionState) (f : Facts) (a : ℕ) (x : ActionState)
    (here : slice_get states a ≡ Some x) (fits : Fits (shapes states) f) where
  shape_here : slice_get (shapes states) a ≡ Some (shape_of x)
  shape_here = slice_get-map shape_of states a ∙ ap (option_map shape_of) here

  pub within : a < length (shapes states)
  within = slice_get_within (shapes states) a (shape_of x) shape_here

  -- the queue of a group that is there has room for the action
  pub room : (qs : List (List ℕ)) → ((g : ℕ) (q : List ℕ) → slice_get qs g ≡ Some q
      → length q ≡ length (shapes states)) → (g : ℕ) → g < length qs → a < length (get_or qs g [])
  room qs sizes g lt =
      let size = sizes g (get_or qs g []) (slice_get-get_or qs g [] lt) in
      let w = within in
      omega arith

  pub has_room : (qs : List (List ℕ)) → ((g : ℕ) (q : List ℕ) → slice_get qs g ≡ Some q
      → length q ≡ length (shapes states)) → length qs ≡ length f.queues → (o : Option ℕ)
      → ((g : ℕ) → is_named g o ≡ true → names g (shape_of x) ≡ true)
      → IfSome o (λ g. a < length (get_or qs g []))
  has_room qs sizes same None named = tt
  has_room qs sizes same (Some g) named =
      let lt = fits.named a g (shape_of x) shape_here (named g (eq-eqb g g refl)) in
      room qs sizes g (omega arith)

  pub local_named : (g : ℕ) → is_named g x.local.group ≡ true → names g (shape_of x) ≡ true
  local_named g h = or_left (is_named g x.local.group) (is_named g x.remote.group) h

  pub remote_named : (g : ℕ) → is_named g x.remote.group ≡ true → names g (shape_of x) ≡ true
  remote_named g h = or_right (is_named g x.local.group) (is_named g x.remote.group) h

  abbrev once : List (List ℕ)
  once = posted f.queues x.local.group a x (is_ready states x)

  abbrev twice : List (List ℕ)
  twice = posted once x.remote.group a x (is_ready states x)

  pub once_groups : length once ≡ length f.queues
  once_groups = posted_groups a x (is_ready states x) f.queues x.local.group

  twice_groups : length twice ≡ length f.queues
  twice_groups = posted_groups a x (is_ready states x) once x.remote.group ∙ once_groups

  pub once_sizes : (g : ℕ) (q : List ℕ) → slice_get once g ≡ Some q → length q ≡ length
      (shapes states)
  once_sizes = posted_sizes a x (is_ready states x) f.queues x.local.group (length
      (shapes states)) fits.queues

  twice_beside : (g c : ℕ) → c ≢ a → place twice g c ≡ place f.queues g c
  twice_beside g c apart =
      posted_beside a x (is_ready states x) once x.remote.group g c apart
      ∙ posted_beside a x (is_ready states x) f.queues x.local.group g c apart

  twice_strange : (g : ℕ) → is_named g x.local.group ≡ false → is_named g x.remote.group ≡ false
      → g < length f.queues → place twice g a ≡ Some ABSENT
  twice_strange g left right lt =
      posted_elsewhere a x (is_ready states x) once x.remote.group g right
      ∙ posted_elsewhere a x (is_ready states x) f.queues x.local.group g left
      ∙ fits.strange a g (shape_of x) shape_here (or_from (is_named g x.local.group)
      (is_named g x.remote.group) left right) lt

  twice_here : (g : ℕ) → g < length f.queues → place twice g a ≡ Some (mark a
      (has_queued states g x))
  twice_here g lt =
      let lt_once : g < length once = let e = once_groups in omega arith in
      by_bool (is_named g x.remote.group) (λ _. place twice g a ≡ Some (mark a
      (has_queued states g x)))
      (λ right. posted_here a x (is_ready states x) once x.remote.group g right lt_once
      (room once once_sizes g lt_once))
      (λ no_right. by_bool (is_named g x.local.group) (λ _. place twice g a ≡ Some (mark a
      (has_queued states g x)))
      (λ left. posted_elsewhere a x (is_ready states x) once x.remote.group g no_right
      ∙ posted_here a x (is_ready states x) f.queues x.local.group g left lt
      (room f.queues fits.queues g lt))
      (λ no_left. twice_strange g no_left no_right lt
      ∙ ap (λ b. Some (mark a b)) (sym (not_queued a x (is_ready states x) g no_left no_right))))

  pub refreshed_fits : Fits (shapes states) (refreshed states f a x)
  refreshed_fits = record {
    supplied = length-set f.supplied a _ ∙ fits.supplied;
    waiting = length-set f.waiting a _ ∙ fits.waiting;
    queues = posted_sizes a x (is_ready states x) once x.remote.group (length
        (shapes states)) once_sizes;
    named = λ c g s h n. let lt = fits.named c g s h n in let e = twice_groups in omega arith;
    strange = λ c g s h n lt.
        let e = twice_groups in
        let old : g < length f.queues = omega arith in
        elim (cases_eq c a) [
          | inl same ↦
              (let here' : slice_get (shapes states) a ≡ Some s = rw same at h in
              let is : s ≡ shape_of x = let k = shape_here in cc in
              let none : names g (shape_of x) ≡ false = rw is at n in
              let parts = or_parts (is_named g x.local.group) (is_named g x.remote.group) none in
              rw same (twice_strange g parts.0 parts.1 old))
          | inr apart ↦ twice_beside g c apart ∙ fits.strange c g s h n old
        ];
  }

  pub refreshed_right : IsRight states (refreshed states f a x) a x
  refreshed_right = record {
    supplied = let w = within in let e = fits.supplied in set_here f.supplied a _ (omega arith);
    waiting = let w = within in let e = fits.waiting in set_here f.waiting a _ (omega arith);
    queued = λ g lt. twice_here g (let e = twice_groups in omega arith);
  }

  pub refreshed_others : (c : ℕ) → c ≢ a → SameOf f (refreshed states f a x) c
  refreshed_others c apart = record {
    groups = twice_groups;
    supplied = set_beside f.supplied a c _ apart;
    waiting = set_beside f.waiting a c _ apart;
    queued = λ g. twice_beside g c apart;
  }

-- ---- what the calls leave

pub is_refreshed : (states : List ActionState) (f : Facts) (a : ℕ) (x : ActionState) (s m : ℕ)
    (ready w : Bool) (waiting : List ℕ) (first once second twice : List (List ℕ))
    → s ≡ supplied_by states x.producers → ready ≡ is_ready states x
    → w ≡ (not (is_settled x.own) && ready) → m ≡ mark a w → waiting ≡ set f.waiting a m
    → first ≡ f.queues → once ≡ posted first x.local.group a x ready
    → second ≡ once → twice ≡ posted second x.remote.group a x ready
    → ◌≡◌ {A = Facts} (record { supplied = set f.supplied a s; waiting = waiting; queues = twice })
    (refreshed states f a x)
is_refreshed states f a x s m ready w waiting first once second twice es er ew em ewait e1 e2 e3 e4
    =
    rw (ewait, em, ew, e4, e3, e2, e1, er, es) refl
