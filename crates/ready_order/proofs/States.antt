-- What a change of one state leaves of the others, and of what is noted.
use Rattle.std.proofs.Common.{◌≡◌, ℕ, zero, suc, ◌≤◌, ◌≢◌, Bool, true, ◌&&◌, not, cond, List, [], ◌∷◌, get_or, Option, Some, None, is_some, option_map, inl, inr, refl, ap, sym, subst, ◌∙◌}
use Rattle.std.specs.Prelude.{slice_get}
use Rattle.std.proofs.lemmas.Bool.{cases_eq, ne_eqb, eq-eqb}
use Rattle.exec_journal.specs.Settled.{is_settled, is_success}
use Rattle.list_lemmas.specs.Places.{update}
use Rattle.list_lemmas.proofs.Updates.{get_update}
use Rattle.ready_order.specs.declared.ActionState.{ActionState}
use Rattle.ready_order.specs.Facts.{Facts}
use Rattle.run_plan.specs.declared.plan.Branch.{Branch}
use Rattle.run_plan.specs.declared.plan.Branch.TheVariants.{Local, Remote}
use Rattle.ready_order.specs.Queue.{has_success, state_with}
use Rattle.ready_order.specs.Board.{AreKnown, Fits, IsNoted, RightAt, SameOf, is_in, mark, queued_if, shape_of, shapes, supplied_by}
use Rattle.ready_order.proofs.Fronts.{front_same, all_same}
use Rattle.ready_order.proofs.Told.{right_known, same_right}
use Rattle.ready_order.proofs.Written.{length_update}

pub shapes_kept : (g : ActionState → ActionState) → ((x : ActionState) → shape_of (g x)
    ≡ shape_of x)
    → (states : List ActionState) (a : ℕ) → shapes (update g states a) ≡ shapes states
shapes_kept g same [] a = refl
shapes_kept g same (x ∷ xs) zero = ap (λ s. s ∷ shapes xs) (same x)
shapes_kept g same (x ∷ xs) (suc a) = ap (λ ss. shape_of x ∷ ss) (shapes_kept g same xs a)

pub update_beside : (g : ActionState → ActionState) (states : List ActionState) (a c : ℕ) → c ≢ a
    → slice_get (update g states a) c ≡ slice_get states c
update_beside g states a c apart =
    get_update g states a c
    ∙ ap (λ b. cond b (option_map g (slice_get states c)) (slice_get states c)) (ne_eqb a c
    (λ e. apart (sym e)))

pub update_here : (g : ActionState → ActionState) (states : List ActionState) (a : ℕ)
    → slice_get (update g states a) a ≡ option_map g (slice_get states a)
update_here g states a =
    get_update g states a a
    ∙ ap (λ b. cond b (option_map g (slice_get states a)) (slice_get states a)) (eq-eqb a a refl)

-- where every state keeps its own standing, the same actions have success
pub success_kept : (g : ActionState → ActionState) → ((x : ActionState) → (g x).own ≡ x.own)
    → (states : List ActionState) (a q : ℕ) → has_success (update g states a) q
    ≡ has_success states q
success_kept g same states a q =
    elim (cases_eq q a) [
      | inl here ↦
          rw here (ap (λ o. is_success (option_map (λ x. x.own) o)) (update_here g states a) ∙ own_same
          (slice_get states a))
      | inr apart ↦ ap (λ o. is_success (option_map (λ x. x.own) o))
          (update_beside g states a q apart)
    ]
  where
    own_same : (o : Option ActionState) → is_success (option_map (λ x. x.own) (option_map g o))
        ≡ is_success (option_map (λ x. x.own) o)
    own_same None = refl
    own_same (Some x) = ap (λ s. is_success (Some s)) (same x)

-- an action keeps what is noted of it where its own state and the success of its producers are as they were
pub right_kept : (states states' : List ActionState) (f : Facts) (c : ℕ)
    → slice_get states' c ≡ slice_get states c
    → ((x : ActionState) → slice_get states c ≡ Some x → (q : ℕ) → is_in q x.producers ≡ true
    → has_success states' q ≡ has_success states q)
    → RightAt states f c → RightAt states' f c
right_kept states states' f c e same right = λ x here.
    let old = sym e ∙ here in
    let r = right x old in
    let front = front_same (has_success states) (has_success states') x.producers (same x old) in
    let all = all_same (has_success states) (has_success states') x.producers (same x old) in
    record {
      supplied = r.supplied ∙ ap Some (sym front);
      waiting = r.waiting ∙ ap (λ b. Some (mark c (not (is_settled x.own) && b))) (sym all);
      queued = λ g lt. r.queued g lt ∙ ap (λ b. Some (mark c (is_some (queued_if b g x))))
          (sym all);
    }

-- ---- a change that leaves each standing

module _ (g : ActionState → ActionState) (same : (x : ActionState) → shape_of (g x) ≡ shape_of x)
    (own : (x : ActionState) → (g x).own ≡ x.own) (states : List ActionState)
    (users : List (List ℕ)) (f : Facts) (a : ℕ) (n : IsNoted states users f) where
  pub fits_kept : Fits (shapes (update g states a)) f
  fits_kept = rw (shapes_kept g same states a) n.fits

  pub known_kept : AreKnown (update g states a) a (get_or f.supplied a 0)
  known_kept x here = by (slice_get states a) refl (sym (update_here g states a) ∙ here)
    where
      by : (o : Option ActionState) → slice_get states a ≡ o → option_map g o ≡ Some x
          → get_or f.supplied a 0 ≤ supplied_by (update g states a) x.producers
      by None old e = absurd (cc)
      by (Some y) old e =
          let is : g y ≡ x = cc in
          let ps : x.producers ≡ y.producers = ap (λ z. z.producers) (sym is) ∙ ap
          (λ s. s.producers) (same y) in
          let front = front_same (has_success states) (has_success (update g states a)) y.producers
          (λ q m. success_kept g own states a q) in
          let known = right_known states f a (n.right a) y old in
          rw (ps, front) known

  pub noted_again : (h : Facts) → Fits (shapes (update g states a)) h → RightAt
      (update g states a) h a
      → ((c : ℕ) → c ≢ a → SameOf f h c) → IsNoted (update g states a) users h
  noted_again h fits here others = record {
    small = rw (length_update g states a) n.small;
    linked = rw (shapes_kept g same states a, length_update g states a) n.linked;
    fits = fits;
    right = λ c. elim (cases_eq c a) [
      | inl e ↦ subst (RightAt (update g states a) h) (sym e) here
      | inr apart ↦
          same_right (update g states a) f h c (others c apart)
          (right_kept states (update g states a) f c (update_beside g states a c apart)
          (λ x old q m. success_kept g own states a q) (n.right c))
    ];
  }

pub free_same : (b : Branch) (v : Bool) (x : ActionState) → shape_of (state_with b v x) ≡ shape_of x
free_same Local v x = refl
free_same Remote v x = refl

pub free_own : (b : Branch) (v : Bool) (x : ActionState) → (state_with b v x).own ≡ x.own
free_own Local v x = refl
free_own Remote v x = refl
