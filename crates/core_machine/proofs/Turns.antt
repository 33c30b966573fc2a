-- A turn of the bench: what comes out, and what lies on the shelf then.
use Rattle.std.proofs.Common.{◌≡◌, ◌≢◌, inl, inr, ⊎_elim, ℕ, ◌/◌, ◌%◌, ◌==◌, ◌<◌, Bool, true, false, cond, List, [], ◌∷◌, ◌++◌, set, Option, Some, None, option_map, refl, ap, sym, subst, ◌∙◌, eq-eqb, ne_eqb, length}
use Rattle.std.proofs.lemmas.Grind.{fold-append}
use Rattle.seat_desk.specs.History.{entry, after, calls_by, IsReply}
use Rattle.run_plan.specs.declared.plan.Branch.{Branch}
use Rattle.exec_journal.specs.declared.call.Call.{Call}
use Rattle.exec_journal.specs.declared.call.Call.TheVariants as call
use Rattle.exec_journal.specs.declared.call.Started.TheVariants as start
use Rattle.exec_journal.specs.declared.call.Found.{Found}
use Rattle.exec_journal.specs.declared.call.Found.TheVariants as found
use Rattle.exec_journal.specs.declared.call.CommitEnd.{CommitEnd}
use Rattle.exec_journal.specs.declared.reply.Reply.{Reply}
use Rattle.exec_journal.specs.declared.reply.Reply.TheVariants as reply
use Rattle.exec_journal.specs.declared.reply.Why.{Why}
use Rattle.exec_journal.specs.Entries.{is_kept}
use Rattle.outside.specs.Told.{ChildTold, TapTold, PlaceTold}
use Rattle.core_contract.specs.Discipline.{Discipline}
use Rattle.core_contract.specs.Ruled.{answer_after}
use Rattle.core_contract.specs.Moves.{Past, History, Move, PutLine, TakeTap, TakeChild, GiveUp, TakePlace, PutPlace, Nothing, move_in, noted_moves, ask_moves, take_moves, claim_moves, tap_move, proxy_move, shift_for}
use Rattle.core_contract.specs.Shelf.{Spot, Fresh, Away, Back, child_by, tap_by, place_by, files_of_spot, child_then, tap_then, place_then, child_at, tap_at, place_at}
use Rattle.core_contract.specs.Laws.{InScript, is_short, claimed}
use Rattle.core_machine.specs.declared.shelf.Good.{Good}
use Rattle.core_machine.specs.declared.shelf.Good.TheVariants as good
use Rattle.core_machine.specs.Slots.{Hold, lies_in}
use Rattle.core_machine.specs.Shifts.{children_then, taps_then, places_then, good_then}
use Rattle.core_machine.specs.Bench.{IsOf, IsInSpot, IsChildOf, IsTapOf, IsPlaceOf, Lies, IsLine, IsTap, IsChild, IsPlace, Comes, ComesOut, GoesIn}
use Rattle.core_machine.proofs.Saying.{says, unkept_moves_nothing}
use Rattle.core_machine.proofs.Filling.{stay, fill}

-- ---- the spots after a call, whose entry is kept or moves nothing

same_cond : {X : Type 0} (b : Bool) (x : X) → cond b x x ≡ x
same_cond true x = refl
same_cond false x = refl

-- for its own berth, and for another
here_is : {X : Type 0} (w : ℕ) (x y : X) → cond (w == w) x y ≡ x
here_is w x y = ap (λ (b : Bool). cond b x y) (eq-eqb w w refl)

apart_is : {X : Type 0} (w v : ℕ) (x y : X) → w ≢ v → cond (w == v) x y ≡ y
apart_is w v x y n = ap (λ (b : Bool). cond b x y) (ne_eqb w v n)

abbrev child_next : ℕ → Move → ℕ → Option ℕ → Option ℕ
child_next w m v o = cond (w == v) (child_by o m) o

abbrev tap_next : ℕ → Move → ℕ → Option ℕ → Option ℕ
tap_next w m v o = cond (w == v) (tap_by o m) o

abbrev place_next : Move → ℕ → Spot → Spot
place_next m a s = place_by a s m

-- each spot has made the move, from the history h to the history h'
pub record Moved (h h' : History) (w : ℕ) (m : Move) : Type 0 where
  pub child : (v : ℕ) → child_at v h' ≡ child_next w m v (child_at v h)
  pub tap : (v : ℕ) → tap_at v h' ≡ tap_next w m v (tap_at v h)
  pub place : (a : ℕ) → place_at a h' ≡ place_next m a (place_at a h)

nothing_moved : (h : History) (w : ℕ) → Moved h h w Nothing
nothing_moved h w = record {
  child = λ v. sym (same_cond (w == v) (child_at v h));
  tap = λ v. sym (same_cond (w == v) (tap_at v h));
  place = λ a. refl;
}

kept_moved : (h : History) (lane : ℕ) (c : Call) (r : Reply)
    → Moved h (h ++ entry lane c r ∷ []) (lane / 2) (move_in lane c r)
kept_moved h lane c r = record {
  child = λ v. fold-append (child_then v) None h (entry lane c r ∷ []);
  tap = λ v. fold-append (tap_then v) None h (entry lane c r ∷ []);
  place = λ a. fold-append (place_then a) Fresh h (entry lane c r ∷ []);
}

moved_by : (h : History) (lane : ℕ) (c : Call) (r : Reply) (b : Bool) → is_kept r ≡ b
    → Moved h (cond b (h ++ entry lane c r ∷ []) h) (lane / 2) (move_in lane c r)
moved_by h lane c r true e = kept_moved h lane c r
moved_by h lane c r false e =
    subst (Moved h h (lane / 2)) (sym (unkept_moves_nothing lane c r e))
    (nothing_moved h (lane / 2))

-- the history after a call
abbrev pub History_after : History → ℕ → Call → Reply → History
History_after h lane c r = after (λ (e : Past). is_kept e.reply) h (entry lane c r)

moved : (h : History) (lane : ℕ) (c : Call) (r : Reply)
    → Moved h (History_after h lane c r) (lane / 2) (move_in lane c r)
moved h lane c r = moved_by h lane c r (is_kept r) refl

-- ---- each move

module _ {K T P : Type 0} (child : K → ChildTold) (tap : T → TapTold) (place : P → PlaceTold)
    (q : Discipline) where
  -- what a move finds, for the berth w, and what goes in with it
  abbrev MayMove : History → ℕ → Move → Option (Good K T P) → Type 0
  MayMove h w (PutLine l) put = IsLine child tap place q l put
  MayMove h w (TakeTap l) put = (w < q.seats) × (tap_at w h ≡ Some l)
  MayMove h w (TakeChild l) put = (w < q.seats) × (child_at w h ≡ Some l)
  MayMove h w GiveUp put = w < q.seats
  MayMove h w (TakePlace a fs) put = (a < (length q.plan.actions)) × (place_at a h ≡ Fresh)
  MayMove h w (PutPlace a how) put = (fs : List (List ℕ)) × (place_at a h ≡ Away fs)
      × IsPlace child tap place q a (Back fs how) put
  MayMove h w Nothing put = Unit {0}

  -- ---- what comes out

  tap_out : (l : ℕ) (o : Option T) → IsOf (IsTapOf tap) (Some l) o
      → IsTap child tap place q l (option_map good.Tap o)
  tap_out l None x = absurd x
  tap_out l (Some t) x = x

  child_out : (at : Option ℕ) (o : Option K) → IsOf (IsChildOf child) at o
      → IsChild child tap place q at (option_map good.Child o)
  child_out None o x = ap (λ (o : Option K). option_map good.Child o) x
  child_out (Some l) None x = absurd x
  child_out (Some l) (Some k) x = x

  place_out : (a : ℕ) (o : Option P) → IsInSpot (IsPlaceOf place q a) Fresh o
      → IsPlace child tap place q a Fresh (option_map good.Place o)
  place_out a None x = absurd x
  place_out a (Some p) x = x

  -- ---- what lies there then
  module _ (h h' : History) (w : ℕ) (children : List (Option K))
      (taps : List (Option T)) (places : List (Option P))
      (lies : Lies child tap place q h children taps places) where
    abbrev Has_child : ℕ → Option ℕ → Option K → Type 0
    Has_child v at o = IsOf (IsChildOf child) at o

    abbrev Has_tap : ℕ → Option ℕ → Option T → Type 0
    Has_tap v at o = IsOf (IsTapOf tap) at o

    abbrev Has_place : ℕ → Spot → Option P → Type 0
    Has_place a s o = IsInSpot (IsPlaceOf place q a) s o

    abbrev Children : List (Option K) → Type 0
    Children slots = Hold q.seats (λ v. Has_child v (child_at v h')) slots

    abbrev Taps : List (Option T) → Type 0
    Taps slots = Hold q.seats (λ v. Has_tap v (tap_at v h')) slots

    abbrev Places : List (Option P) → Type 0
    Places slots = Hold (length q.plan.actions) (λ a. Has_place a (place_at a h')) slots

    children_stay : (m : Move) → Moved h h' w m → ((o : Option ℕ) → child_by o m ≡ o)
        → Children children
    children_stay m d same = stay Has_child q.seats (λ v. child_at v h) (λ v. child_at v h')
        (child_next w m) d.child children
        (λ v o. ap (λ (x : Option ℕ). cond (w == v) x o) (same o) ∙ same_cond (w == v) o)
        lies.children

    taps_stay : (m : Move) → Moved h h' w m → ((o : Option ℕ) → tap_by o m ≡ o) → Taps taps
    taps_stay m d same = stay Has_tap q.seats (λ v. tap_at v h) (λ v. tap_at v h')
        (tap_next w m) d.tap taps
        (λ v o. ap (λ (x : Option ℕ). cond (w == v) x o) (same o) ∙ same_cond (w == v) o)
        lies.taps

    places_stay : (m : Move) → Moved h h' w m → ((a : ℕ) (s : Spot) → place_by a s m ≡ s)
        → Places places
    places_stay m d same = stay Has_place (length q.plan.actions) (λ a. place_at a h) (λ a. place_at a h')
        (place_next m) d.place places same lies.places

    children_fill : (m : Move) (o : Option K) → Moved h h' w m
        → IsOf (IsChildOf child) (child_by (child_at w h) m) o → Children (set children w o)
    children_fill m o d is = fill Has_child q.seats (λ v. child_at v h) (λ v. child_at v h')
        (child_next w m) d.child children w o
        (λ lt. subst (λ (x : Option ℕ). IsOf (IsChildOf child) x o)
        (sym (here_is w (child_by (child_at w h) m) (child_at w h))) is)
        (λ v x n. apart_is w v (child_by x m) x n) lies.children

    taps_fill : (m : Move) (o : Option T) → Moved h h' w m
        → IsOf (IsTapOf tap) (tap_by (tap_at w h) m) o → Taps (set taps w o)
    taps_fill m o d is = fill Has_tap q.seats (λ v. tap_at v h) (λ v. tap_at v h')
        (tap_next w m) d.tap taps w o
        (λ lt. subst (λ (x : Option ℕ). IsOf (IsTapOf tap) x o)
        (sym (here_is w (tap_by (tap_at w h) m) (tap_at w h))) is)
        (λ v x n. apart_is w v (tap_by x m) x n) lies.taps

    places_fill : (m : Move) (a : ℕ) (o : Option P) → Moved h h' w m
        → (a < (length q.plan.actions) → Has_place a (place_by a (place_at a h) m) o)
        → ((b : ℕ) (s : Spot) → a ≢ b → place_by b s m ≡ s) → Places (set places a o)
    places_fill m a o d here apart = fill Has_place (length q.plan.actions) (λ b. place_at b h) (λ b. place_at b h')
        (place_next m) d.place places a o here apart lies.places

    abbrev Turned : Move → Option (Good K T P) → Type 0
    Turned m put =
        Comes child tap place q h w m (good_then (shift_for m) w children taps places)
        × Lies child tap place q h'
        (children_then (shift_for m) w put children)
        (taps_then (shift_for m) w put taps) (places_then (shift_for m) put places)

    puts_line : (l : ℕ) (put : Option (Good K T P)) → Moved h h' w (PutLine l)
        → IsLine child tap place q l put → Turned (PutLine l) put
    puts_line l (Some (good.Line k t)) d is = (
      refl,
      record {
        children = children_fill (PutLine l) (Some k) d is.0;
        taps = taps_fill (PutLine l) (Some t) d is.1;
        places = places_stay (PutLine l) d (λ a s. refl);
      },
    )
    puts_line l None d is = absurd is
    puts_line l (Some (good.Child k)) d is = absurd is
    puts_line l (Some (good.Tap t)) d is = absurd is
    puts_line l (Some (good.Place p)) d is = absurd is

    takes_tap : (l : ℕ) (put : Option (Good K T P)) → Moved h h' w (TakeTap l) → w < q.seats
        → tap_at w h ≡ Some l → Turned (TakeTap l) put
    takes_tap l put d lt at = (
      tap_out l (lies_in taps w)
          (subst (λ (x : Option ℕ). IsOf (IsTapOf tap) x (lies_in taps w)) at
          (lies.taps.each w lt)),
      record {
        children = children_stay (TakeTap l) d (λ o. refl);
        taps = taps_fill (TakeTap l) None d refl;
        places = places_stay (TakeTap l) d (λ a s. refl);
      },
    )

    takes_child : (l : ℕ) (put : Option (Good K T P)) → Moved h h' w (TakeChild l) → w < q.seats
        → child_at w h ≡ Some l → Turned (TakeChild l) put
    takes_child l put d lt at = (
      child_out (Some l) (lies_in children w)
          (subst (λ (x : Option ℕ). IsOf (IsChildOf child) x (lies_in children w)) at
          (lies.children.each w lt)),
      record {
        children = children_fill (TakeChild l) None d refl;
        taps = taps_stay (TakeChild l) d (λ o. refl);
        places = places_stay (TakeChild l) d (λ a s. refl);
      },
    )

    gives_up : (put : Option (Good K T P)) → Moved h h' w GiveUp → w < q.seats → Turned GiveUp put
    gives_up put d lt = (
      child_out (child_at w h) (lies_in children w) (lies.children.each w lt),
      record {
        children = children_fill GiveUp None d refl;
        taps = taps_stay GiveUp d (λ o. refl);
        places = places_stay GiveUp d (λ a s. refl);
      },
    )

    takes_place : (a : ℕ) (fs : List (List ℕ)) (put : Option (Good K T P))
        → Moved h h' w (TakePlace a fs) → a < (length q.plan.actions) → place_at a h ≡ Fresh
        → Turned (TakePlace a fs) put
    takes_place a fs put d lt at = (
      place_out a (lies_in places a)
          (subst (λ (s : Spot). IsInSpot (IsPlaceOf place q a) s (lies_in places a)) at
          (lies.places.each a lt)),
      record {
        children = children_stay (TakePlace a fs) d (λ o. refl);
        taps = taps_stay (TakePlace a fs) d (λ o. refl);
        places = places_fill (TakePlace a fs) a None d
            (λ _. subst (λ (s : Spot). IsInSpot (IsPlaceOf place q a) s None)
            (sym (here_is a (Away fs) (place_at a h))) refl)
            (λ b s n. apart_is a b (Away fs) s n);
      },
    )

    puts_place : (a : ℕ) (how : CommitEnd) (fs : List (List ℕ)) (put : Option (Good K T P))
        → Moved h h' w (PutPlace a how) → place_at a h ≡ Away fs
        → IsPlace child tap place q a (Back fs how) put → Turned (PutPlace a how) put
    puts_place a how fs (Some (good.Place p)) d at is = (
      refl,
      record {
        children = children_stay (PutPlace a how) d (λ o. refl);
        taps = taps_stay (PutPlace a how) d (λ o. refl);
        places = places_fill (PutPlace a how) a (Some p) d
            (λ _. subst (λ (s : Spot). IsInSpot (IsPlaceOf place q a) s (Some p))
            (sym (ap (λ (s : Spot). place_by a s (PutPlace a how)) at
            ∙ here_is a (Back fs how) (Away fs))) is)
            (λ b s n. apart_is a b (Back (files_of_spot s) how) s n);
      },
    )
    puts_place a how fs None d at is = absurd is
    puts_place a how fs (Some (good.Child k)) d at is = absurd is
    puts_place a how fs (Some (good.Tap t)) d at is = absurd is
    puts_place a how fs (Some (good.Line k t)) d at is = absurd is

    nothing_turns : (put : Option (Good K T P)) → Moved h h' w Nothing → Turned Nothing put
    nothing_turns put d = (
      refl,
      record {
        children = children_stay Nothing d (λ o. refl);
        taps = taps_stay Nothing d (λ o. refl);
        places = places_stay Nothing d (λ a s. refl);
      },
    )

    turned : (m : Move) (put : Option (Good K T P)) → Moved h h' w m
        → MayMove h w m put → Turned m put
    turned (PutLine l) put d may = puts_line l put d may
    turned (TakeTap l) put d may = takes_tap l put d may.0 may.1
    turned (TakeChild l) put d may = takes_child l put d may.0 may.1
    turned GiveUp put d may = gives_up put d may
    turned (TakePlace a fs) put d may = takes_place a fs put d may.0 may.1
    turned (PutPlace a how) put d may = puts_place a how may.0 put d may.1 may.2
    turned Nothing put d may = nothing_turns put d

-- ---- which moves may be made

-- a reply that isn't short is the rule's
of_rule : (rule : History → ℕ → Call → Reply) (MayBe : History → ℕ → Call → Type 0) (h : History)
    (lane : ℕ) (c : Call) (r s : Reply) → is_short s ≡ false → r ≡ s
    → IsReply rule is_short MayBe h lane c r → rule h lane c ≡ s
of_rule rule MayBe h lane c r s long e (inl is) = sym is ∙ e
of_rule rule MayBe h lane c r s long e (inr is) =
    absurd (let x : true ≡ false = sym is.0 ∙ (ap is_short e ∙ long) in cc)

-- what a core keeps to, at this history and for this lane
pub record LawsAt (q : Discipline) (h : History) (lane : ℕ) : Type 0 where
  pub known : (c : Call) → InScript (answer_after q) h lane c → lane / 2 < q.seats
  pub takes : (l : ℕ) → answer_after q h lane call.Take ≡ reply.Line l → tap_at (lane / 2) h ≡ Some l
  pub kills : (l : ℕ) (y : Why) → answer_after q h lane call.Ask ≡ reply.Kill l y
      → child_at (lane / 2) h ≡ Some l
  pub grants : (a : ℕ) (b : Branch) (t : ℕ) (fs : List (List ℕ))
      → answer_after q h lane (call.Claim a b t (found.Files fs)) ≡ reply.Granted
      → (a < length q.plan.actions) × (place_at a h ≡ Fresh)
  pub commits : (a : ℕ) (b : Branch) (how : CommitEnd)
      → InScript (answer_after q) h lane (call.Committed a b how)
      → place_at a h ≡ Away (claimed (calls_by lane h))

module _ {K T P : Type 0} (child : K → ChildTold) (tap : T → TapTold) (place : P → PlaceTold)
    (q : Discipline) (MayBe : History → ℕ → Call → Type 0) (h : History) (lane : ℕ)
    (laws : LawsAt q h lane) where
  abbrev rule : History → ℕ → Call → Reply
  rule = answer_after q

  abbrev May : Move → Option (Good K T P) → Type 0
  May m put = MayMove child tap place q h (lane / 2) m put

  abbrev Is : Call → Reply → Type 0
  Is c r = IsReply rule is_short MayBe h lane c r

  abbrev Goes : Call → Option (Good K T P) → Type 0
  Goes c put = GoesIn child tap place q h lane c put

  -- where the reply is none that moves anything
  none_may : (m : Move) (put : Option (Good K T P)) → m ≡ Nothing → May m put
  none_may m put e = subst (λ (x : Move). May x put) (sym e) tt

  -- the lane is one of the plan's, where a reply other than Astray came
  here : (c : Call) (s : Reply) → rule h lane c ≡ s → (s ≡ reply.Astray → ⊥) → lane / 2 < q.seats
  here c s e other = laws.known c (λ a. other (sym e ∙ a))

  takes_tap_may : (r : Reply) (put : Option (Good K T P)) → Is call.Take r → May (take_moves r) put
  takes_tap_may r put is = ⊎_elim
      (λ k. let e = of_rule rule MayBe h lane call.Take r (reply.Line k.0) refl k.1 is in
      subst (λ (x : Reply). May (take_moves x) put) (sym k.1)
      (here call.Take (reply.Line k.0) e (λ x. absurd (cc)), laws.takes k.0 e))
      (λ n. none_may (take_moves r) put n) (says r).line

  takes_child_may : (r : Reply) (put : Option (Good K T P)) → Is call.Ask r → May (ask_moves r) put
  takes_child_may r put is = ⊎_elim
      (λ k. let e = of_rule rule MayBe h lane call.Ask r (reply.Kill k.0 k.1) refl k.2 is in
      subst (λ (x : Reply). May (ask_moves x) put) (sym k.2)
      (here call.Ask (reply.Kill k.0 k.1) e (λ x. absurd (cc)), laws.kills k.0 k.1 e))
      (λ n. none_may (ask_moves r) put n) (says r).kill

  puts_line_may : (l : ℕ) (r : Reply) (put : Option (Good K T P))
      → Goes (call.Launched l start.Done) put → May (noted_moves (PutLine l) r) put
  puts_line_may l r put goes = ⊎_elim
      (λ e. subst (λ (x : Reply). May (noted_moves (PutLine l) x) put) (sym e) goes.1)
      (λ n. none_may (noted_moves (PutLine l) r) put (n (PutLine l))) (says r).noted

  gives_up_may : (r : Reply) (put : Option (Good K T P)) → Is call.Halt r
      → May (noted_moves GiveUp r) put
  gives_up_may r put is = ⊎_elim
      (λ e. subst (λ (x : Reply). May (noted_moves GiveUp x) put) (sym e)
      (here call.Halt reply.Noted (of_rule rule MayBe h lane call.Halt r reply.Noted refl e is)
      (λ x. absurd (cc))))
      (λ n. none_may (noted_moves GiveUp r) put (n GiveUp)) (says r).noted

  takes_place_may : (a : ℕ) (b : Branch) (t : ℕ) (f : Found) (r : Reply)
      (put : Option (Good K T P)) → Is (call.Claim a b t f) r → May (claim_moves a f r) put
  takes_place_may a b t (found.Files fs) r put is = ⊎_elim
      (λ e. subst (λ (x : Reply). May (claim_moves a (found.Files fs) x) put) (sym e)
      (laws.grants a b t fs (of_rule rule MayBe h lane (call.Claim a b t (found.Files fs)) r
      reply.Granted refl e is)))
      (λ n. none_may (claim_moves a (found.Files fs) r) put (n a fs)) (says r).granted
  takes_place_may a b t (found.Exit k) r put is = tt
  takes_place_may a b t (found.Missing k) r put is = tt
  takes_place_may a b t found.RoomFault r put is = tt
  takes_place_may a b t found.Refused r put is = tt

  puts_place_may : (a : ℕ) (b : Branch) (how : CommitEnd) (r : Reply) (put : Option (Good K T P))
      → Goes (call.Committed a b how) put → May (noted_moves (PutPlace a how) r) put
  puts_place_may a b how r put goes = ⊎_elim
      (λ e. subst (λ (x : Reply). May (noted_moves (PutPlace a how) x) put) (sym e)
      (claimed (calls_by lane h), laws.commits a b how goes.0, goes.1))
      (λ n. none_may (noted_moves (PutPlace a how) r) put (n (PutPlace a how))) (says r).noted

  proxy_may : (c : Call) (r : Reply) (put : Option (Good K T P)) → Is c r → Goes c put
      → May (proxy_move c r) put
  proxy_may call.Ask r put is goes = takes_child_may r put is
  proxy_may (call.Launched l start.Done) r put is goes = puts_line_may l r put goes
  proxy_may (call.Launched l start.RoomFault) r put is goes = tt
  proxy_may (call.Launched l start.LaunchFault) r put is goes = tt
  proxy_may (call.Wrote l n how) r put is goes = tt
  proxy_may call.Tick r put is goes = tt
  proxy_may (call.Look w) r put is goes = tt
  proxy_may (call.Claim a b t f) r put is goes = takes_place_may a b t f r put is
  proxy_may (call.Committed a b how) r put is goes = puts_place_may a b how r put goes
  proxy_may (call.Killed l) r put is goes = tt
  proxy_may call.Take r put is goes = tt
  proxy_may (call.Answer l x) r put is goes = tt
  proxy_may (call.Ended l how) r put is goes = tt
  proxy_may call.Halt r put is goes = gives_up_may r put is

  tap_may : (c : Call) (r : Reply) (put : Option (Good K T P)) → Is c r → May (tap_move c r) put
  tap_may call.Take r put is = takes_tap_may r put is
  tap_may call.Ask r put is = tt
  tap_may (call.Launched l how) r put is = tt
  tap_may (call.Wrote l n how) r put is = tt
  tap_may call.Tick r put is = tt
  tap_may (call.Look w) r put is = tt
  tap_may (call.Claim a b t f) r put is = tt
  tap_may (call.Committed a b how) r put is = tt
  tap_may (call.Killed l) r put is = tt
  tap_may (call.Answer l x) r put is = tt
  tap_may (call.Ended l how) r put is = tt
  tap_may call.Halt r put is = tt

  may : (c : Call) (r : Reply) (put : Option (Good K T P)) → Is c r → Goes c put
      → May (move_in lane c r) put
  may c r put is goes = elim (lane % 2 == 0) as (λ b.
      May (cond b (proxy_move c r) (tap_move c r)) put) [
        | true ↦ proxy_may c r put is goes
        | false ↦ tap_may c r put is
      ]

  -- a turn
  pub turns : (c : Call) (r : Reply) (put : Option (Good K T P))
      (children children' : List (Option K))
      (taps taps' : List (Option T)) (places places' : List (Option P)) (out : Option (Good K T P))
      → Is c r → Goes c put
      → Lies child tap place q h children taps places
      → children' ≡ children_then (shift_for (move_in lane c r)) (lane / 2) put children
      → taps' ≡ taps_then (shift_for (move_in lane c r)) (lane / 2) put taps
      → places' ≡ places_then (shift_for (move_in lane c r)) put places
      → out ≡ good_then (shift_for (move_in lane c r)) (lane / 2) children taps places
      → ComesOut child tap place q h lane c r out
      × Lies child tap place q
      (History_after h lane c r) children' taps' places'
  turns c r put children children' taps taps' places places' out is goes lies cs ts ps o =
      let t = turned child tap place q h (History_after h lane c r) (lane / 2)
      children taps places lies (move_in lane c r) put (moved h lane c r) (may c r put is goes) in (
        subst (λ (x : Option (Good K T P)). ComesOut child tap place q h lane c r x)
            (sym o) t.0,
        subst (λ (x : List (Option K)). Lies child tap place q
            (History_after h lane c r) x taps' places') (sym cs)
            (subst (λ (x : List (Option T)). Lies child tap place q
            (History_after h lane c r) (children_then (shift_for (move_in lane c r))
            (lane / 2) put children)
            x places') (sym ts)
            (subst (λ (x : List (Option P)). Lies child tap place q
            (History_after h lane c r) (children_then (shift_for (move_in lane c r))
            (lane / 2) put children)
            (taps_then (shift_for (move_in lane c r)) (lane / 2) put taps) x) (sym ps) t.1)),
      )
