-- The child on the shelf for a berth, by the entries of its proxy lane alone.
use Rattle.std.proofs.Common.{◌≡◌, ⊎_elim, ℕ, ◌/◌, ◌%◌, ◌==◌, Bool, true, false, cond, [], ◌∷◌, Option, None, refl, ap, sym, ◌∙◌, subst, arith, eq-eqb, eqb-true}
use Rattle.std.specs.List.{fold}
use Rattle.std.proofs.Math.Nat.{div-add-mod}
use Rattle.seat_desk.specs.History.{calls_by}
use Rattle.exec_journal.specs.declared.call.Call.{Call}
use Rattle.exec_journal.specs.declared.call.Call.TheVariants as call
use Rattle.exec_journal.specs.declared.reply.Reply.{Reply}
use Rattle.core_contract.specs.Moves.{Past, History, Move, tap_move, proxy_move, take_moves}
use Rattle.core_contract.specs.Shelf.{child_by, child_then, child_at}
use Rattle.core_contract.specs.Duties.{proxy_lane}
use Rattle.core_machine.proofs.Saying.{says}

-- what other lanes' entries don't change is said by the lane's own
module _ {S : Type 0} (then : S → Past → S) (lane : ℕ)
    (same : (s : S) (e : Past) → (lane == e.lane) ≡ false → then s e ≡ s) where
  own_step : (s : S) (e : Past) (es : History) (b : Bool) → (lane == e.lane) ≡ b
      → ((x : S) → fold then x es ≡ fold then x (calls_by lane es))
      → fold then (then s e) es ≡ fold then s (cond b (e ∷ calls_by lane es) (calls_by lane es))
  own_step s e es true is rest = rest (then s e)
  own_step s e es false is rest = ap (λ (x : S). fold then x es) (same s e is) ∙ rest s

  own_says : (h : History) (s : S) → fold then s h ≡ fold then s (calls_by lane h)
  own_says [] s = refl
  own_says (e ∷ es) s = own_step s e es (lane == e.lane) refl (λ x. own_says es x)

-- a tap lane's call leaves the child
tap_leaves : (o : Option ℕ) (c : Call) (r : Reply) → child_by o (tap_move c r) ≡ o
tap_leaves o call.Take r = ⊎_elim
    (λ k. subst (λ (x : Reply). child_by o (take_moves x) ≡ o) (sym k.1) refl)
    (λ n. subst (λ (m : Move). child_by o m ≡ o) (sym n) refl) (says r).line
tap_leaves o call.Ask r = refl
tap_leaves o (call.Launched l how) r = refl
tap_leaves o (call.Wrote l n how) r = refl
tap_leaves o call.Tick r = refl
tap_leaves o (call.Look w) r = refl
tap_leaves o (call.Claim a b t f) r = refl
tap_leaves o (call.Committed a b how) r = refl
tap_leaves o (call.Killed l) r = refl
tap_leaves o (call.Answer l x) r = refl
tap_leaves o (call.Ended l how) r = refl
tap_leaves o call.Halt r = refl

-- so does every call of a lane that isn't the berth's proxy lane
module _ (w : ℕ) (o : Option ℕ) (e : Past) (other : (proxy_lane w == e.lane) ≡ false) where
  not_even : e.lane / 2 ≡ w → e.lane % 2 ≡ 0 → ⊥
  not_even half even =
      (let whole = div-add-mod e.lane 2 in
      let is : proxy_lane w ≡ e.lane = omega (arith, whole, half, even) in
      let x : true ≡ false = sym (eq-eqb (proxy_lane w) e.lane is) ∙ other in cc)

  by_parity : (b : Bool) → (e.lane % 2 == 0) ≡ b → e.lane / 2 ≡ w
      → child_by o (cond b (proxy_move e.call e.reply) (tap_move e.call e.reply)) ≡ o
  by_parity true even half = absurd (not_even half (eqb-true (e.lane % 2) 0 even))
  by_parity false odd half = tap_leaves o e.call e.reply

  by_berth : (b : Bool) → (e.lane / 2 == w) ≡ b → cond b (child_by o
      (cond (e.lane % 2 == 0) (proxy_move e.call e.reply) (tap_move e.call e.reply))) o ≡ o
  by_berth true half = by_parity (e.lane % 2 == 0) refl (eqb-true (e.lane / 2) w half)
  by_berth false half = refl

  child_stays : child_then w o e ≡ o
  child_stays = by_berth (e.lane / 2 == w) refl

-- the line whose child lies on the shelf for a berth is said by its proxy lane's own entries
pub child_is_own : (w : ℕ) (h : History) → child_at w h ≡ child_at w (calls_by (proxy_lane w) h)
child_is_own w h = own_says (child_then w) (proxy_lane w)
    (λ o e other. child_stays w o e other) h None
