-- The least number of a queue is the action that the group begins next; and none waits where no number stands.
use Rattle.std.proofs.Common.{◌≡◌, ℕ, zero, suc, ◌<◌, ◌≤◌, ◌≢◌, nat_eq, Bool, true, false, ◌&&◌, not, cond, List, [], ◌∷◌, length, get_or, Option, Some, None, is_some, option_map, unwrap_or, inl, inr, refl, ap, sym, subst, ◌∙◌, arith}
use Rattle.std.specs.Prelude.{slice_get, option_and_then}
use Rattle.std.specs.List.{list_all}
use Rattle.std.proofs.lemmas.Bool.{cases_eq, cases_lt, eq-eqb, ne_eqb, and_parts, or_left, or_right}
use Rattle.std.proofs.lemmas.List.{length-map, get_or_past}
use Rattle.std.proofs.lemmas.List.Recursion.{and_fails_at}
use Rattle.std.proofs.lemmas.List.Sums.{list_all-from_AllPass}
use Rattle.std.proofs.lemmas.Option.{slice_get-get_or, slice_get-map, slice_get_within, same_Some, get_or_from_slice_get, slice_get_read}
use Rattle.exec_journal.proofs.Ruled.{by_bool}
use Rattle.run_plan.specs.declared.plan.Branch.{Branch}
use Rattle.run_plan.specs.declared.plan.Branch.TheVariants.{Local, Remote}
use Rattle.ready_order.specs.Matches.{IsLeast}
use Rattle.ready_order.specs.declared.winner_tree.TheConstants.{ABSENT}
use Rattle.ready_order.specs.declared.ActionState.{ActionState}
use Rattle.ready_order.specs.Facts.{Facts}
use Rattle.ready_order.specs.Queue.{IsEarliest, IsFirst, is_of, is_open, is_queued, is_ready, may_begin, none_waits, seat_of, waits}
use Rattle.ready_order.specs.Board.{IsNoted, has_queued, is_named, mark, names, place, queued_if, shape_of, shapes}
use Rattle.ready_order.proofs.Written.{found}

-- ---- what is queued

has_from : (states : List ActionState) (g : ℕ) (x : ActionState) (b : Branch)
    → may_begin states g x (seat_of b x) ≡ true → has_queued states g x ≡ true
has_from states g x Local h = rw h refl
has_from states g x Remote h =
    by_bool (may_begin states g x x.local)
    (λ v. is_some (cond v (Some Local) (cond (may_begin states g x x.remote) (Some Remote) None))
    ≡ true)
    (λ left. refl) (λ none. rw h refl)

pub named_from : (states : List ActionState) (g : ℕ) (x : ActionState) (b : Branch)
    → may_begin states g x (seat_of b x) ≡ true → names g (shape_of x) ≡ true
named_from states g x Local h = or_left (is_named g x.local.group) (is_named g x.remote.group)
    (and_parts (is_of g x.local) _ h).0
named_from states g x Remote h = or_right (is_named g x.local.group) (is_named g x.remote.group)
    (and_parts (is_of g x.remote) _ h).0

pub none_and : (b : Bool) → (b && false) ≡ false
none_and true = refl
none_and false = refl

unready : (g : ℕ) (x : ActionState) → is_some (queued_if false g x) ≡ false
unready g x = rw (
  none_and (is_open x),
  none_and x.local.free,
  none_and x.remote.free,
  none_and
      (is_of g x.local),
  none_and (is_of g x.remote),
) refl

-- whose branch is queued has producers with success
ready_from : (r : Bool) (g : ℕ) (x : ActionState) → is_some (queued_if r g x) ≡ true → r ≡ true
ready_from true g x h = refl
ready_from false g x h = let no_one = unready g x in absurd (cc)

-- a mark that isn't ABSENT is that of an action that is there
marked : (a least : ℕ) (here : Bool) → mark a here ≡ least → least ≢ ABSENT → (here ≡ true) ×
    (least ≡ a)
marked a least true e ne = (refl, sym e)
marked a least false e ne = absurd (ne (sym e))

there_at : {X : Type 0} (xs : List X) (k : ℕ) → k < length xs → (x : X) × (slice_get xs k ≡ Some x)
there_at [] k lt = absurd (omega arith)
there_at (x ∷ xs) zero lt = (x, refl)
there_at (x ∷ xs) (suc k) lt = there_at xs k (omega arith)

module _ (states : List ActionState) (users : List (List ℕ)) (f : Facts)
    (n : IsNoted states users f) where
  pub small_enough : (a : ℕ) (x : ActionState) → slice_get states a ≡ Some x → a < ABSENT
  small_enough a x at = let lt = slice_get_within states a x at in let most = n.small in omega arith

  -- ---- who waits

  no_less : (a : ℕ) (x : ActionState) (least : ℕ) → slice_get states a ≡ Some x
      → IsLeast f.waiting least
      → waits states x ≡ true → least ≤ a
  no_less a x least at is w =
      let at_place : slice_get f.waiting a ≡ Some a = (n.right a x at).waiting ∙ ap (λ b. Some
      (mark a b)) w in
      let lt = slice_get_within f.waiting a a at_place in
      let e = get_or_from_slice_get f.waiting a a 0 at_place in
      let le = is.none_less a lt in
      omega arith

  pub waiting_is : (least : ℕ) → IsLeast f.waiting least → nat_eq least ABSENT ≡ none_waits states
  waiting_is least is =
      elim (cases_eq least ABSENT) [
        | inl absent ↦
            eq-eqb least ABSENT absent
            ∙ sym (list_all-from_AllPass (λ x. not (waits states x)) states (λ k d lt.
            let x = get_or states k d in
            let at = slice_get-get_or states k d lt in
            by_bool (waits states x) (λ b. not b ≡ true)
            (λ w. let le = no_less k x least at is w in let small = small_enough k x at in absurd
            (omega arith))
            (λ no_one. refl)))
        | inr there ↦
            ne_eqb least ABSENT there
            ∙ (let w = is.among there in
            let k = w.0 in
            let size = n.fits.waiting in
            let all = length-map states shape_of in
            let lt : k < length states = let l = w.1 in omega arith in
            let e = there_at states k lt in
            let at_place = get_or_from_slice_get f.waiting k (mark k (waits states e.0)) 0
            (n.right k e.0 e.1).waiting in
            let has = (marked k least (waits states e.0) (sym at_place ∙ w.2) there).0 in
            let test : not (waits states (get_or states k e.0)) ≡ false = rw
            (get_or_from_slice_get states k e.0 e.0 e.1, has) refl in
            sym (and_fails_at (list_all (λ x. not (waits states x))) (λ x. not (waits states x)) refl
            (λ x xs. refl) states k e.0 lt test))
      ]

  -- ---- the first of a queue

  module _ (g least : ℕ) (is : IsLeast (get_or f.queues g []) least) where
    pub none_before : (a : ℕ) (b : Branch) (x : ActionState) → slice_get states a ≡ Some x
        → may_begin states g x (seat_of b x) ≡ true → least ≤ a
    none_before a b x at h =
        let shape : slice_get (shapes states) a ≡ Some (shape_of x) =
        slice_get-map shape_of states a ∙ ap (option_map shape_of) at in
        let lt = n.fits.named a g (shape_of x) shape (named_from states g x b h) in
        let at_place : place f.queues g a ≡ Some a = (n.right a x at).queued g lt ∙ ap (λ v. Some
        (mark a v)) (has_from states g x b h) in
        let in_queue : slice_get (get_or f.queues g []) a ≡ Some a = sym (ap (option_and_then
        (λ q. slice_get q a)) (slice_get-get_or f.queues g [] lt)) ∙ at_place in
        let e = get_or_from_slice_get (get_or f.queues g []) a a 0 in_queue in
        let le = is.none_less a (slice_get_within (get_or f.queues g []) a a in_queue) in
        omega arith

    not_before : (a : ℕ) (b : Branch) → ((x : ActionState) → slice_get states a ≡ Some x
        → least ≤ a → ⊥)
        → is_queued states g a b ≡ false
    not_before a b no_less = by (slice_get states a) refl
      where
        by : (o : Option ActionState) → slice_get states a ≡ o → is_queued states g a b ≡ false
        by None e = ap (λ o. unwrap_or (option_map (λ x. may_begin states g x
            (seat_of b x)) o) false) e
        by (Some x) e =
            ap (λ o. unwrap_or (option_map (λ x. may_begin states g x (seat_of b x)) o) false) e
            ∙ by_bool (may_begin states g x (seat_of b x)) (λ v. v ≡ false)
            (λ h. absurd (no_less x e (none_before a b x e h))) (λ h. refl)

    pub first_none : least ≡ ABSENT → IsEarliest states g None
    first_none absent a b = not_before a b (λ x at le. let small = small_enough a x at in
        omega arith)

    queue_size : 0 < length (get_or f.queues g []) → length (get_or f.queues g []) ≡ length states
    queue_size some =
        elim (cases_lt g (length f.queues)) [
          | inl lt ↦
              n.fits.queues g (get_or f.queues g []) (slice_get-get_or f.queues g [] lt)
              ∙ length-map states shape_of
          | inr past ↦
              (let none : get_or f.queues g [] ≡ [] = get_or_past f.queues g [] past in
              let zero_long : length (get_or f.queues g []) ≡ 0 = ap length none in
              absurd (omega arith))
        ]

    -- the state of the action of that number, a branch of which is queued
    pub first_there : least ≢ ABSENT → (x : ActionState) × (slice_get states least ≡ Some x) ×
        (has_queued states g x ≡ true)
    first_there there =
        let w = is.among there in
        let k = w.0 in
        let low = w.1 in
        let size = queue_size (omega arith) in
        let e = there_at states k (omega arith) in
        let lt : g < length f.queues =
        elim (cases_lt g (length f.queues)) [
          | inl it ↦ it
          | inr past ↦
              (let none : get_or f.queues g [] ≡ [] = get_or_past f.queues g [] past in
              let zero_long : length (get_or f.queues g []) ≡ 0 = ap length none in
              absurd (omega arith))
        ] in
        let at_place = (n.right k e.0 e.1).queued g lt in
        let in_queue : slice_get (get_or f.queues g []) k ≡ Some (mark k
        (has_queued states g e.0)) =
        sym (ap (option_and_then (λ q. slice_get q k)) (slice_get-get_or f.queues g [] lt))
        ∙ at_place in
        let is_mark = get_or_from_slice_get (get_or f.queues g []) k (mark k
        (has_queued states g e.0)) 0 in_queue in
        let m = marked k least (has_queued states g e.0) (sym is_mark ∙ w.2) there in
        (e.0, subst (λ (i : ℕ). slice_get states i ≡ Some e.0) (sym m.1) e.1, m.0)

    pub first_within : least ≢ ABSENT → least < length states
    first_within there = let w = first_there there in slice_get_within states least w.0 w.1

    pub first_ready : least ≢ ABSENT → (x : ActionState) → x ≡ get_or states least x
        → is_some (queued_if true g x) ≡ true
    first_ready there x read =
        let w = first_there there in
        let at = slice_get_read states (length states) least x refl (first_within there) read in
        let same : w.0 ≡ x = same_Some w.0 x (sym w.1 ∙ at) in
        let has : has_queued states g x ≡ true = ap (has_queued states g) (sym same) ∙ w.2 in
        ap (λ r. is_some (queued_if r g x)) (sym (ready_from (is_ready states x) g x has)) ∙ has

    pub first_some : least ≢ ABSENT → (x : ActionState) → x ≡ get_or states least x → (b : Branch)
        → queued_if true g x ≡ Some b → IsFirst states g least b
    first_some there x read b q =
        let w = first_there there in
        let at = slice_get_read states (length states) least x refl (first_within there) read in
        let same : w.0 ≡ x = same_Some w.0 x (sym w.1 ∙ at) in
        let has : has_queued states g x ≡ true = ap (has_queued states g) (sym same) ∙ w.2 in
        found states g least x b (first_within there) read
        (λ c d lt. not_before c d (λ _ _ le. absurd (omega arith)))
        (ap (λ r. queued_if r g x) (ready_from (is_ready states x) g x has) ∙ q)
