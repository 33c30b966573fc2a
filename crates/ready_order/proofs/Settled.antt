-- What a settled action leaves of what is noted: its users' producers have another success than before.
use Rattle.std.proofs.Common.{◌≡◌, ℕ, zero, suc, ◌<◌, ◌≢◌, Bool, true, false, not, cond, List, [], ◌∷◌, length, get_or, Option, Some, None, option_map, inl, inr, refl, ap, sym, subst, ◌∙◌, arith}
use Rattle.std.specs.Prelude.{slice_get}
use Rattle.std.specs.Bool.{beq}
use Rattle.std.proofs.lemmas.Bool.{cases_eq}
use Rattle.std.proofs.lemmas.List.{length-map}
use Rattle.std.proofs.lemmas.Option.{slice_get-map, slice_get_within}
use Rattle.exec_journal.specs.Settled.{is_success}
use Rattle.exec_journal.proofs.Ruled.{by_bool}
use Rattle.list_lemmas.specs.Places.{update}
use Rattle.ready_order.specs.declared.ActionState.{ActionState}
use Rattle.ready_order.specs.Facts.{Facts}
use Rattle.ready_order.specs.Queue.{has_success, settled_state}
use Rattle.ready_order.specs.Board.{AreKnown, Fits, IsNoted, RightAt, SameOf, Shape, affected, is_in, shape_of, shapes}
use Rattle.ready_order.proofs.Fronts.{front_same, front_more}
use Rattle.ready_order.proofs.Told.{right_known, same_right, same_supplied}
use Rattle.ready_order.proofs.States.{shapes_kept, update_beside, update_here, right_kept}
use Rattle.ready_order.proofs.Written.{length_update}

same_test : (b s : Bool) → beq b s ≡ true → b ≡ s
same_test true true e = refl
same_test false false e = refl
same_test true false e = sym e
same_test false true e = e

settled_success : (s : Bool) (x : ActionState) → is_success (option_map (λ y. y.own) (option_map
    (settled_state s) (Some x))) ≡ s
settled_success true x = refl
settled_success false x = refl

settled_at : (s : Bool) (states : List ActionState) (a : ℕ) → a < length states
    → is_success (option_map (λ y. y.own) (option_map (settled_state s) (slice_get states a))) ≡ s
settled_at s [] a lt = absurd (omega arith)
settled_at s (x ∷ xs) zero lt = settled_success s x
settled_at s (x ∷ xs) (suc a) lt = settled_at s xs a (omega arith)

-- whose state it was before
origin : (g : ActionState → ActionState) → ((x : ActionState) → shape_of (g x) ≡ shape_of x)
    → (states : List ActionState) (a c : ℕ) (y : ActionState) → slice_get (update g states a) c
    ≡ Some y
    → (x : ActionState) × (slice_get states c ≡ Some x) × (y.producers ≡ x.producers)
origin g same states a c y here = by (slice_get states c) refl
  where
    shape : option_map shape_of (slice_get states c) ≡ Some (shape_of y)
    shape =
        sym (slice_get-map shape_of states c) ∙ sym (ap (λ ss. slice_get ss c)
        (shapes_kept g same states a))
        ∙ slice_get-map shape_of (update g states a) c ∙ ap (option_map shape_of) here

    by : (o : Option ActionState) → slice_get states c ≡ o → (x : ActionState) ×
        (slice_get states c ≡ Some x) × (y.producers ≡ x.producers)
    by None e = let k = shape in absurd (let z : ◌≡◌ {A = Option Shape} None (Some (shape_of y)) =
        sym (ap (option_map shape_of) e) ∙ k in cc)
    by (Some x) e =
        let z : ◌≡◌ {A = Option Shape} (Some (shape_of x)) (Some (shape_of y)) = sym (ap
        (option_map shape_of) e) ∙ shape in
        let k : shape_of x ≡ shape_of y = cc in
        (x, e, sym (ap (λ s. s.producers) k))

module _ (s : Bool) (states : List ActionState) (users : List (List ℕ)) (f : Facts) (a : ℕ)
    (n : IsNoted states users f) (lt : a < length states) (before : List ActionState)
    (seen : before ≡ states) (us : List ℕ) (are : us ≡ affected before users a s) where
  abbrev now : List ActionState
  now = update (settled_state s) states a

  affects : us ≡ affected states users a s
  affects = are ∙ ap (λ (ss : List ActionState). affected ss users a s) seen

  kept : (y : ActionState) → shape_of (settled_state s y) ≡ shape_of y
  kept y = refl

  success_here : has_success now a ≡ s
  success_here =
      ap (λ o. is_success (option_map (λ y. y.own) o)) (update_here (settled_state s) states a)
      ∙ settled_at s states a lt

  success_beside : (q : ℕ) → q ≢ a → has_success now q ≡ has_success states q
  success_beside q apart =
      ap (λ o. is_success (option_map (λ y. y.own) o)) (update_beside
      (settled_state s) states a q apart)

  pub settled_fits : Fits (shapes now) f
  settled_fits = rw (shapes_kept (settled_state s) kept states a) n.fits

  pub users_known : (c : ℕ) → is_in c us ≡ true → c < length now
  users_known c m =
      rw (length_update (settled_state s) states a)
      (by_bool (beq (has_success states a) s)
      (λ b. is_in c (cond (not b) (get_or users a []) []) ≡ true → c < length states)
      (λ same none. absurd (cc)) (λ other hit. n.linked.known a c hit)
      (sym (ap (is_in c) affects) ∙ m))

  -- an action that isn't followed has the same producers with success
  unaffected : (c : ℕ) (y : ActionState) → slice_get states c ≡ Some y → is_in c us ≡ false →
      (q : ℕ)
      → is_in q y.producers ≡ true → has_success now q ≡ has_success states q
  unaffected c y at out q m =
      elim (cases_eq q a) [
        | inl same ↦
            rw same
            (by_bool (beq (has_success states a) s)
            (λ b. beq (has_success states a) s ≡ b → is_in c (cond (not b) (get_or users a []) [])
            ≡ false → has_success now a ≡ has_success states a)
            (λ _ e _. success_here ∙ sym (same_test (has_success states a) s e))
            (λ _ _ none.
            let shape : slice_get (shapes states) c ≡ Some (shape_of y) =
            slice_get-map shape_of states c ∙ ap (option_map shape_of) at in
            let size = length-map states shape_of in
            let m' : is_in a y.producers ≡ true = rw same at m in
            let hit = n.linked.among a c (shape_of y) (slice_get_within states c y at) shape
            (omega arith) m' in
            absurd (cc))
            refl (sym (ap (is_in c) affects) ∙ out))
        | inr apart ↦ success_beside q apart
      ]

  pub settled_known : s ≡ true → (c : ℕ) → AreKnown now c (get_or f.supplied c 0)
  settled_known won c y at =
      let w = origin (settled_state s) kept states a c y at in
      let known = right_known states f c (n.right c) w.0 w.1 in
      let more = front_more (has_success states) (has_success now) w.0.producers (λ q hit.
      elim (cases_eq q a) [
        | inl same ↦ rw same (success_here ∙ won)
        | inr apart ↦ success_beside q apart ∙ hit
      ]) in
      rw w.2 (omega arith)

  -- once the users are followed
  module _ (h : Facts) (followed : (c : ℕ) → is_in c us ≡ true → RightAt now h c)
      (others : (c : ℕ) → is_in c us ≡ false → SameOf f h c) where
    right_beside : (c : ℕ) → c ≢ a → RightAt now h c
    right_beside c apart =
        by_bool (is_in c us) (λ _. RightAt now h c) (λ hit. followed c hit)
        (λ out. same_right now f h c (others c out)
        (right_kept states now f c (update_beside (settled_state s) states a c apart)
        (λ y at q m. unaffected c y at out q m) (n.right c)))

    pub followed_known : AreKnown now a (get_or h.supplied a 0)
    followed_known =
        by_bool (is_in a us) (λ _. AreKnown now a (get_or h.supplied a 0))
        (λ hit. right_known now h a (followed a hit))
        (λ out y at.
        let w = origin (settled_state s) kept states a a y at in
        let known = right_known states f a (n.right a) w.0 w.1 in
        let front = front_same (has_success states) (has_success now) w.0.producers
        (λ q m. unaffected a w.0 w.1 out q m) in
        let was = same_supplied f h a (others a out) in
        rw w.2 (omega arith))

    -- and the action itself
    pub settled_noted : (k : Facts) → Fits (shapes now) k → RightAt now k a
        → ((c : ℕ) → c ≢ a → SameOf h k c) → IsNoted now users k
    settled_noted k fits right beside = record {
      small = rw (length_update (settled_state s) states a) n.small;
      linked = rw (
        shapes_kept (settled_state s) kept states a,
        length_update
            (settled_state s) states a,
      ) n.linked;
      fits = fits;
      right = λ c. elim (cases_eq c a) [
        | inl e ↦ subst (RightAt now k) (sym e) right
        | inr apart ↦ same_right now h k c (beside c apart) (right_beside c apart)
      ];
    }
