-- A history in which no lane has a call.
use Rattle.std.proofs.Common.{◌≡◌, ℕ, ◌+◌, ◌≤◌, ◌==◌, Bool, true, cond, List, [], ◌∷◌, length, refl, sym, ◌∙◌, ap, subst, arith, eq-eqb}
use mathlib.Core.Logic.{dite}
use native.Mathlib.Decide.{ℕ_discrete}
use Rattle.plain_values.specs.declared.entry.Entry.{Entry}
use Rattle.seat_desk.specs.declared.view.Joined.{Joined}
use Rattle.seat_desk.specs.History.{calls_by}
use Rattle.seat_desk.specs.Turns.{AllJoined, NoneFrom}
use Rattle.lane_threads.specs.LaneJobs.{AreIdle, IdleFrom}

module _ {C R : Type 0} where
  -- a lane that was joined idle, or is none of the first so many
  by_lane : (k i : ℕ) (js : List (Joined C R)) (h : List (Entry C R)) → IdleFrom k js → AllJoined h js
      → (k + length js ≤ i → calls_by i h ≡ []) → k ≤ i → calls_by i h ≡ []
  by_lane k i [] h idle all beyond low = beyond (omega (arith, low))
  by_lane k i (j ∷ js) h idle all beyond low = dite (ℕ_discrete i k)
      (λ same. subst (λ (n : ℕ). calls_by n h ≡ []) (idle.0 ∙ sym same) (all.0 ∙ idle.1))
      (λ other. by_lane (k + 1) i js h idle.2 all.1 (λ far. beyond (omega (arith, far))) (omega (arith, low, other)))

  silent : (h : List (Entry C R)) → ((i : ℕ) → calls_by i h ≡ []) → h ≡ []
  silent [] none = refl
  silent (e ∷ es) none =
      let same : (e.lane == e.lane) ≡ true = eq-eqb e.lane e.lane refl in
      let here : e ∷ calls_by e.lane es ≡ [] = sym (ap (λ (t : Bool). cond t (e ∷ calls_by e.lane es) (calls_by e.lane es)) same) ∙ none e.lane in
      absurd (cc)

  -- where the passes of so many lanes were joined idle, and no lane beyond them has a call, none has
  pub quiet : (n : ℕ) (js : List (Joined C R)) (h : List (Entry C R)) → AreIdle 0 n js → AllJoined h js → NoneFrom n h → h ≡ []
  quiet n js h idle all none = silent h (λ i. by_lane 0 i js h idle.each all
      (λ far. none i (omega (arith, far, idle.as_many))) (omega arith))
