-- What the table's own calls make of its states.
use Rattle.std.proofs.Common.{◌≡◌, ℕ, zero, suc, ◌<◌, Bool, true, false, cond, List, [], ◌∷◌, length, get_or, set, Some, None, refl, ap, ◌∙◌}
use Rattle.std.specs.Prelude.{unwrap_or, option_map}
use Rattle.std.proofs.lemmas.Option.{slice_get_read}
use Rattle.run_plan.specs.declared.plan.Branch.{Branch}
use Rattle.run_plan.specs.declared.plan.Branch.TheVariants.{Local, Remote}
use Rattle.list_lemmas.specs.Places.{update}
use Rattle.list_lemmas.proofs.Updates.{set-update}
use Rattle.ready_order.specs.declared.ActionState.{ActionState}
use Rattle.ready_order.specs.Queue.{may_begin, is_queued, queued_branch, IsFirst, seat_of}

pub written : (g : ActionState → ActionState) (states states' : List ActionState) (a : ℕ) (x r : ActionState) → states ≡ states' → a < length states' → x ≡ get_or states a x → r ≡ g x → set states a r ≡ update g states' a
written g states states' a x r e lt is more =
    let below : a < length states = rw e lt in
    ap (λ y. set states a y) (more ∙ ap g is) ∙ set-update g states a x below ∙ ap (λ ys. update g ys a) e

-- a call changes one state and no number of states
pub length_update : (g : ActionState → ActionState) (states : List ActionState) (a : ℕ) → length (update g states a) ≡ length states
length_update g [] a = refl
length_update g (x ∷ xs) zero = refl
length_update g (x ∷ xs) (suc a) = ap suc (length_update g xs a)

-- ---- the search for the first

module _ (states : List ActionState) (g : ℕ) where
  -- nothing is queued of the actions before it
  abbrev pub NoneBefore : ℕ → Type 0
  NoneBefore a = (c : ℕ) (d : Branch) → c < a → is_queued states g c d ≡ false

  read : (a : ℕ) (x : ActionState) → a < length states → x ≡ get_or states a x → (b : Branch) → is_queued states g a b ≡ may_begin states g x (seat_of b x)
  read a x lt is b = ap (λ o. unwrap_or (option_map (λ y. may_begin states g y (seat_of b y)) o) false) (slice_get_read states (length states) a x refl lt is)

  pub found : (a : ℕ) (x : ActionState) (b : Branch) → a < length states → x ≡ get_or states a x → NoneBefore a → queued_branch states g x ≡ Some b → IsFirst states g a b
  found a x b lt is none h = by b (may_begin states g x x.local) (may_begin states g x x.remote) refl refl h
    where
      by : (b : Branch) (local remote : Bool) → may_begin states g x x.local ≡ local → may_begin states g x x.remote ≡ remote → cond local (Some Local) (cond remote (Some Remote) None) ≡ Some b → IsFirst states g a b
      by Local true remote l r h = record { queued = read a x lt is Local ∙ l; least = none; local_first = λ e. absurd (cc) }
      by Remote true remote l r h = absurd (cc)
      by Local false true l r h = absurd (cc)
      by Remote false true l r h = record { queued = read a x lt is Remote ∙ r; least = none; local_first = λ e. read a x lt is Local ∙ l }
      by b false false l r h = absurd (cc)
