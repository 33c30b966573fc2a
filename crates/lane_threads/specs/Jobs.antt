-- Jobs before they run and after.
use Rattle.std.specs.Prelude.{◌≡◌, ◌≤◌, ℕ, Bool, true, false, List, [], map, vec_len, vec_capacity}
use Rattle.std.specs.Global.{Vec}
use Rattle.std.specs.declared.thread.PromisedHandle.{PromisedHandle}
use Rattle.lane_threads.specs.declared.job.Task.{Task}
use Rattle.lane_threads.specs.declared.job.Slot.{Slot}
use Rattle.lane_threads.specs.declared.job.Slot.TheVariants.{Ready, Ended}

-- an empty list with room for so many
pub record HasRoomFor {X : Type 0} (count : ℕ) (xs : Vec X) : Type 0 where
  pub empty : xs.items ≡ []
  pub none : vec_len xs ≡ 0
  pub room : count ≤ vec_capacity xs

-- whether the post's job has run
abbrev pub has_end : {J E : Type 0} → Slot J E → Bool
has_end (Ready job) = false
has_end (Ended end) = true

-- the post's job has run
abbrev pub HasEnd : {J E : Type 0} → Slot J E → Type 0
HasEnd (Ready job) = ⊥
HasEnd (Ended end) = Unit {0}

-- the post's job has not run
abbrev pub IsReady : {J E : Type 0} → Slot J E → Type 0
IsReady (Ready job) = Unit {0}
IsReady (Ended end) = ⊥

module _ {C J E : Type 0} where
  -- the slot has a job that may run
  abbrev pub CanRun : (C → J → Type 0) → C → Slot J E → Type 0
  CanRun can_run context (Ready job) = can_run context job
  CanRun can_run context (Ended end) = ⊥

  -- the post's job has run, and ended so
  abbrev pub HasEnded : (C → J → E → Type 0) → C → Slot J E → Slot J E → Type 0
  HasEnded ends context (Ready job) (Ended end) = ends context job end
  HasEnded ends context (Ready job) (Ready other) = ⊥
  HasEnded ends context (Ended end) slot = ⊥

  -- the slot is as it was, or its job has run, and ended so
  abbrev pub MayHaveEnded : (C → J → E → Type 0) → C → Slot J E → Slot J E → Type 0
  MayHaveEnded ends context before (Ready job) = before ≡ Ready job
  MayHaveEnded ends context before (Ended end) = HasEnded ends context before (Ended end)

  -- the post's job may run, if it hasn't
  abbrev pub CanRunIfLeft : (C → J → Type 0) → C → Slot J E → Type 0
  CanRunIfLeft can_run context (Ready job) = can_run context job
  CanRunIfLeft can_run context (Ended end) = Unit {0}

  -- the post's job has run, and ended so, or this was its end before
  abbrev pub EndsAs : (C → J → E → Type 0) → C → Slot J E → Slot J E → Type 0
  EndsAs ends context (Ready job) after = HasEnded ends context (Ready job) after
  EndsAs ends context (Ended end) after = after ≡ Ended end

  -- the thread does its task over this context
  abbrev pub IsOver : C → PromisedHandle (Slot J E) (Task C J E) → Type 0
  IsOver context thread = thread.promise.context.value ≡ context

  -- the slots that were given to these threads
  abbrev pub slots_of : List (PromisedHandle (Slot J E) (Task C J E)) → List (Slot J E)
  slots_of threads = map (λ thread. thread.promise.slot.value) threads
