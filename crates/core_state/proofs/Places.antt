-- The ends of all pending places, one by one.
use Rattle.std.proofs.Common.{◌≡◌, ℕ, zero, suc, add-one, ◌+◌, ◌<◌, Bool, true, false, cond, List, [], ◌∷◌, length, get_or, drop, refl, ap, sym, ◌∙◌, arith}
use Rattle.std.proofs.Math.Seq.{drop-cons}
use Rattle.run_plan.specs.declared.plan.Plan.{Plan}
use Rattle.exec_journal.specs.declared.attempt.Attempt.{Attempt}
use Rattle.race_core.specs.declared.Won.{Won}
use Rattle.ready_order.specs.declared.ActionState.{ActionState}
use Rattle.ready_order.specs.Queue as queue
use Rattle.request_table.specs.declared.RequestRow.{RequestRow}
use Rattle.request_table.proofs.Lists.{update_length}
use Rattle.retry_rules.specs.Counts as counts
use Rattle.core_tables.specs.declared.berth_group.BerthGroup.{BerthGroup}
use Rattle.std.specs.Prelude.{nat_lt, not, ◌||◌, nat_le}
use Rattle.core_state.specs.Machine.{EndFits, ends_yet, counts_after, states_after, states_ended, states_spent, other_branch, uses_branch}
use Rattle.core_state.specs.Reports.{PlaceFits, CanEndPlaces, place_counts, place_states, attempt_in}

-- the same actions and the same limit
pub record SameRoom (f g : counts.Facts) (xs ys : List ActionState) : Type 0 where
  pub counts_too : length g.ended ≡ length f.ended
  pub limit_too : g.limit ≡ f.limit
  pub states_too : length ys ≡ length xs

pub same_room : (f : counts.Facts) (xs : List ActionState) → SameRoom f f xs xs
same_room f xs = record { counts_too = refl; limit_too = refl; states_too = refl }

pub moved : (race : List Won) (f g : counts.Facts) (xs ys : List ActionState) (t : Attempt)
    → SameRoom f g xs ys → EndFits race f xs t → EndFits race g ys t
moved race f g xs ys t same fits =
    let c = same.counts_too in
    let l = same.limit_too in
    let s = same.states_too in
    let a = fits.counts_known in
    let b = fits.states_known in
    let d = fits.limited in
    record {
      race_known = fits.race_known;
      counts_known = omega arith;
      states_known = omega arith;
      limited = omega arith;
    }

pub fits_at : (p : Plan) (race : List Won) (f : counts.Facts) (states : List ActionState)
    (seat : BerthGroup) (xs : List RequestRow) (i : ℕ) (d : RequestRow)
    → CanEndPlaces p race f states seat xs → i < length xs
    → PlaceFits p race f states seat (get_or xs i d)
fits_at p race f states seat [] i d can lt = absurd (omega arith)
fits_at p race f states seat (y ∷ ys) zero d can lt = can.0
fits_at p race f states seat (y ∷ ys) (suc i) d can lt =
    fits_at p race f states seat ys i d can.1 (omega arith)

module _ (p : Plan) (race : List Won) (f : counts.Facts) (states : List ActionState) (seat : BerthGroup)
    (x : RequestRow) where
  abbrev t : Attempt
  t = attempt_in p seat x.action x.attempt

  counts_by : (b : Bool) → (length (cond b (counts.with_end f t.action t.branch) f).ended
      ≡ length f.ended) × ((cond b (counts.with_end f t.action t.branch) f).limit ≡ f.limit)
  counts_by true = (update_length (counts.one_more t.branch) f.ended t.action, refl)
  counts_by false = (refl, refl)

  spent_by : (g : counts.Facts) (b : Bool) → length (cond b
      (queue.with_settled states t.action false) states) ≡ length states
  spent_by g true = update_length (queue.settled_state false) states t.action
  spent_by g false = refl

  ended_by : (b : Bool) → length (cond b (queue.with_again states t.action t.branch)
      (states_spent p (counts.with_end f t.action t.branch) states t.action t.branch))
      ≡ length states
  ended_by true = update_length (queue.state_with t.branch true) states t.action
  ended_by false = spent_by f (not (uses_branch p t.action (other_branch t.branch))
      || nat_le p.limit (counts.ended_of (counts.with_end f t.action t.branch) t.action
      (other_branch t.branch)))

  states_by : (b : Bool) → length (cond b (states_ended p f states t) states) ≡ length states
  states_by true = ended_by (nat_lt (counts.ended_of f t.action t.branch + 1) f.limit)
  states_by false = refl

  place_by : (b : Bool) → SameRoom f (cond b (counts_after race f t) f) states
      (cond b (states_after p race f states t) states)
  place_by true = record {
    counts_too = (counts_by (ends_yet race f t)).0;
    limit_too = (counts_by (ends_yet race f t)).1;
    states_too = states_by (ends_yet race f t);
  }
  place_by false = same_room f states

  pub place_keeps : SameRoom f (place_counts p race f seat x) states
      (place_states p race f states seat x)
  place_keeps = place_by x.pending

pub chained : (f g h : counts.Facts) (xs ys zs : List ActionState) → SameRoom f g xs ys
    → SameRoom g h ys zs → SameRoom f h xs zs
chained f g h xs ys zs a b = record {
  counts_too = b.counts_too ∙ a.counts_too;
  limit_too = b.limit_too ∙ a.limit_too;
  states_too = b.states_too ∙ a.states_too;
}

pub next_place : (xs : List RequestRow) (i : ℕ) (d : RequestRow) → i < length xs
    → drop i xs ≡ get_or xs i d ∷ drop (i + 1) xs
next_place xs i d lt = drop-cons xs i d lt ∙ ap (λ m. get_or xs i d ∷ drop m xs) (sym (add-one i))

pub same_by : (f g g' : counts.Facts) (xs ys ys' : List ActionState) → SameRoom f g xs ys → g' ≡ g
    → ys' ≡ ys → SameRoom f g' xs ys'
same_by f g g' xs ys ys' k a b = record {
  counts_too = ap (λ (h : counts.Facts). length h.ended) a
      ∙ k.counts_too;
  limit_too = ap (λ (h : counts.Facts). h.limit) a ∙ k.limit_too;
  states_too = ap length b ∙ k.states_too;
}
