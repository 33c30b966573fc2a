-- Lanes with their passes, before they run and after.
use Rattle.std.specs.Prelude.{◌≡◌, ℕ, ◌+◌, ◌<◌, List, [], ◌∷◌, length}
use Rattle.seat_desk.specs.declared.machine.Machine.{Ghosts}
use Rattle.plain_values.specs.declared.entry.Entry.{Entry}
use Rattle.seat_desk.specs.declared.desk.Pass.{Pass}
use Rattle.seat_desk.specs.declared.desk.Desk.{Desk}
use Rattle.seat_desk.specs.declared.desk.Root.{Root}
use Rattle.seat_desk.specs.declared.view.Joined.{Joined}
use Rattle.seat_desk.specs.History.{StartsWith, calls_by}
use Rattle.seat_desk.specs.Passes.{IsPassOf, IsRootOf, IsSamePass, mine, basis, seen, root_basis, root_seen, joined}
use Rattle.lane_threads.specs.declared.job.Slot.{Slot}
use Rattle.lane_threads.specs.declared.job.Slot.TheVariants.{Ready, Ended}
use Rattle.lane_threads.specs.declared.lane_job.LaneJob.{LaneJob}
use Rattle.lane_threads.specs.declared.lane_job.LaneDone.{LaneDone}
use Rattle.lane_threads.specs.Lanes.{IsFresh, FactBefore, FactOfRun}

module _ {C R : Type 0} where
  -- lanes in order from the number k on, with no calls
  abbrev pub IdleFrom : ℕ → List (Joined C R) → Type 0
  IdleFrom k [] = Unit {0}
  IdleFrom k (j ∷ js) = (j.lane ≡ k) × (j.calls ≡ []) × IdleFrom (k + 1) js

  -- so many of them
  pub record AreIdle (k n : ℕ) (js : List (Joined C R)) : Type 0 where
    pub as_many : length js ≡ n
    pub each : IdleFrom k js

module _ {M C R G Q : Type 0} {g : Ghosts M C R G Q} where
  -- the root has split no pass, seen nothing and joined nothing
  abbrev pub IsNew : Root M C R G Q g → Type 0
  IsNew r = (r.made ≡ 0) × (root_seen r ≡ []) × (joined r ≡ [])

  -- the root is this desk's, by these rules; it has split so many passes, and joined none
  abbrev pub IsEnlisted : Q → ℕ → Desk M C R G Q → Root M C R G Q g → Type 0
  IsEnlisted q count desk r =
      IsRootOf desk r × (r.made ≡ count) × (joined r ≡ []) × (root_basis r ≡ q)

  module _ {L : Type 0} where
    -- the lane of the number k may run at any desk that has bells enough and whose machine has
    -- these rules
    abbrev pub MayRun : FactBefore L (Desk M C R G Q) (Pass M C R G Q g) → Q → ℕ → L → Type 0
    MayRun may_run q k lane =
        (desk : Desk M C R G Q) (bells : ℕ) (pass : Pass M C R G Q g) → IsPassOf desk pass
        → IsFresh pass → pass.lane ≡ k → k < bells → basis pass ≡ q → may_run lane desk bells pass

    -- so may these lanes, in order from the number k on
    abbrev pub MayRunInOrder : FactBefore L (Desk M C R G Q) (Pass M C R G Q g) → Q → ℕ → List L
        → Type 0
    MayRunInOrder may_run q k [] = Unit {0}
    MayRunInOrder may_run q k (lane ∷ lanes) =
        MayRun may_run q k lane × MayRunInOrder may_run q (k + 1) lanes

  module _ {L E : Type 0} where
    -- the lane is at this slot with a fresh pass of this number, of a desk whose machine has these
    -- rules
    abbrev pub IsJobOf : Desk M C R G Q → Q → ℕ → L
        → Slot (LaneJob M L C R G Q g) (LaneDone M E C R G Q g) → Type 0
    IsJobOf desk q k lane (Ready job) =
        (job.lane ≡ lane) × IsPassOf desk job.pass × IsFresh job.pass × (job.pass.lane ≡ k)
        × (basis job.pass ≡ q)
    IsJobOf desk q k lane (Ended done) = ⊥

    -- the lanes are at these slots, in order from the number k on
    abbrev pub JobsFrom : Desk M C R G Q → Q → ℕ → List L
        → List (Slot (LaneJob M L C R G Q g) (LaneDone M E C R G Q g)) → Type 0
    JobsFrom desk q k [] [] = Unit {0}
    JobsFrom desk q k (lane ∷ lanes) (slot ∷ slots) =
        IsJobOf desk q k lane slot × JobsFrom desk q (k + 1) lanes slots
    JobsFrom desk q k [] (slot ∷ slots) = ⊥
    JobsFrom desk q k (lane ∷ lanes) [] = ⊥

    -- so are some lanes, from the number 0 on
    abbrev pub AreJobs : Desk M C R G Q → Q
        → List (Slot (LaneJob M L C R G Q g) (LaneDone M E C R G Q g)) → Type 0
    AreJobs desk q slots = (lanes : List L) × JobsFrom desk q 0 lanes slots

    -- a lane of this desk has run at this slot
    abbrev pub HasItsEnd : Desk M C R G Q → Slot (LaneJob M L C R G Q g) (LaneDone M E C R G Q g)
        → Type 0
    HasItsEnd desk (Ready job) = ⊥
    HasItsEnd desk (Ended done) = IsPassOf desk done.pass

    -- the end was taken from this slot, and its pass joined. The history h begins with what it has
    -- seen
    abbrev pub IsHanded : List (Entry C R) → Slot (LaneJob M L C R G Q g) (LaneDone M E C R G Q g)
        → E → Joined C R → Type 0
    IsHanded h (Ready job) end j = ⊥
    IsHanded h (Ended done) end j =
        (done.end ≡ end) × (j ≡ record { lane = done.pass.lane; calls = mine done.pass })
        × StartsWith h (seen done.pass)

    -- so were those of all slots, in order
    abbrev pub HandedOver : List (Entry C R)
        → List (Slot (LaneJob M L C R G Q g) (LaneDone M E C R G Q g)) → List E → List (Joined C R)
        → Type 0
    HandedOver h [] [] [] = Unit {0}
    HandedOver h (slot ∷ slots) (end ∷ ends) (j ∷ js) =
        IsHanded h slot end j × HandedOver h slots ends js
    HandedOver h _ _ _ = ⊥

    -- each lane gives back the pass that it was given
    abbrev pub KeepsPasses : FactOfRun L E (Pass M C R G Q g) → Type 0
    KeepsPasses has_run =
        (lane : L) (before : Pass M C R G Q g) (end : E) (after : Pass M C R G Q g)
        → has_run lane before end after → IsSamePass before after

    -- the lane k ran with a fresh pass to this end. All that the history has of it are its calls
    pub record LaneEnds (has_run : FactOfRun L E (Pass M C R G Q g)) (q : Q)
        (history : List (Entry C R)) (k : ℕ) (lane : L) (end : E) : Type 0 where
      -- its pass before it ran, and after
      pub before : Pass M C R G Q g
      pub after : Pass M C R G Q g
      pub fresh : IsFresh before
      pub number : before.lane ≡ k
      pub by : basis before ≡ q
      pub same : IsSamePass before after
      -- what its kind says of it
      pub ran : has_run lane before end after
      -- the history goes on from what it saw, and has just its calls under its number
      pub saw : StartsWith history (seen after)
      pub made : mine after ≡ calls_by k history

    -- so did these lanes, in order from the number k on
    abbrev pub EachLane : FactOfRun L E (Pass M C R G Q g) → Q → List (Entry C R) → ℕ → List L
        → List E → Type 0
    EachLane has_run q history k [] [] = Unit {0}
    EachLane has_run q history k (lane ∷ lanes) (end ∷ ends) =
        LaneEnds has_run q history k lane end × EachLane has_run q history (k + 1) lanes ends
    EachLane has_run q history k [] (end ∷ ends) = ⊥
    EachLane has_run q history k (lane ∷ lanes) [] = ⊥
