-- What lies on the shelf after a history, and what goes in and comes out with a call.
use Rattle.std.specs.Prelude.{◌≡◌, ℕ, ◌/◌, List, length, Option, Some, None}
use Rattle.seat_desk.specs.History.{calls_by}
use Rattle.exec_journal.specs.declared.call.Call.{Call}
use Rattle.exec_journal.specs.declared.call.Call.TheVariants as call
use Rattle.exec_journal.specs.declared.call.Started.TheVariants as start
use Rattle.exec_journal.specs.declared.reply.Reply.{Reply}
use Rattle.outside.specs.Launches.{IsNewTap, IsNewChild}
use Rattle.outside.specs.Told.{ChildTold, TapTold, PlaceTold}
use Rattle.core_contract.specs.Discipline.{Discipline, outputs_in}
use Rattle.core_contract.specs.Ruled.{answer_after}
use Rattle.core_contract.specs.Moves.{History, Move, PutLine, TakeTap, TakeChild, GiveUp, TakePlace, PutPlace, Nothing, move_in}
use Rattle.core_contract.specs.Shelf.{Spot, Fresh, Away, Back, child_at, tap_at, place_at}
use Rattle.core_contract.specs.Laws.{InScript, claimed}
use Rattle.core_machine.specs.declared.shelf.Good.{Good}
use Rattle.core_machine.specs.declared.shelf.Good.TheVariants as good
use Rattle.core_machine.specs.Objects.{IsPlaceAt}
use Rattle.core_machine.specs.Slots.{Hold}

-- what lies there is of this line, or nothing lies there
abbrev pub IsOf : {X : Type 0} → (ℕ → X → Type 0) → Option ℕ → Option X → Type 0
IsOf Of None o = o ≡ None
IsOf Of (Some l) None = ⊥
IsOf Of (Some l) (Some x) = Of l x

-- what lies there is an action's place in this spot
abbrev pub IsInSpot : {P : Type 0} → (Spot → P → Type 0) → Spot → Option P → Type 0
IsInSpot In (Away files) o = o ≡ None
IsInSpot In s None = ⊥
IsInSpot In s (Some p) = In s p

-- the child of this line, not killed, by what children tell
abbrev pub IsChildOf : {K : Type 0} → (K → ChildTold) → ℕ → K → Type 0
IsChildOf told l k = IsNewChild l (told k)

-- the tap of this line, from which nothing was taken
abbrev pub IsTapOf : {T : Type 0} → (T → TapTold) → ℕ → T → Type 0
IsTapOf told l t = IsNewTap l (told t)

-- the place of this action in this spot, by a discipline
abbrev pub IsPlaceOf : {P : Type 0} → (P → PlaceTold) → Discipline → ℕ → Spot → P → Type 0
IsPlaceOf told q a s p = IsPlaceAt a (outputs_in q.plan a) s (told p)

-- ---- what lies in the slots after the history

abbrev pub ChildrenLie : {K : Type 0} → (K → ChildTold) → Discipline → History
    → List (Option K) → Type 0
ChildrenLie told q h slots =
    Hold q.seats (λ w o. IsOf (IsChildOf told) (child_at w h) o) slots

abbrev pub TapsLie : {T : Type 0} → (T → TapTold) → Discipline → History → List (Option T)
    → Type 0
TapsLie told q h slots = Hold q.seats (λ w o. IsOf (IsTapOf told) (tap_at w h) o) slots

abbrev pub PlacesLie : {P : Type 0} → (P → PlaceTold) → Discipline → History → List (Option P)
    → Type 0
PlacesLie told q h slots =
    Hold (length q.plan.actions)
    (λ a o. IsInSpot (IsPlaceOf told q a) (place_at a h) o) slots

-- by what children, taps and places tell, and by a discipline
module _ {K T P : Type 0} (child : K → ChildTold) (tap : T → TapTold) (place : P → PlaceTold)
    (q : Discipline) where
  -- on the shelf of all berths and actions, after the history
  pub record Lies (h : History) (child_slots : List (Option K))
      (tap_slots : List (Option T)) (place_slots : List (Option P)) : Type 0 where
    pub children : ChildrenLie child q h child_slots
    pub taps : TapsLie tap q h tap_slots
    pub places : PlacesLie place q h place_slots

  -- ---- goods

  abbrev pub IsLine : ℕ → Option (Good K T P) → Type 0
  IsLine l (Some (good.Line k t)) = IsChildOf child l k × IsTapOf tap l t
  IsLine l _ = ⊥

  abbrev pub IsTap : ℕ → Option (Good K T P) → Type 0
  IsTap l (Some (good.Tap t)) = IsTapOf tap l t
  IsTap l _ = ⊥

  -- the child of this line, or none
  abbrev pub IsChild : Option ℕ → Option (Good K T P) → Type 0
  IsChild None g = g ≡ None
  IsChild (Some l) (Some (good.Child k)) = IsChildOf child l k
  IsChild (Some l) _ = ⊥

  abbrev pub IsPlace : ℕ → Spot → Option (Good K T P) → Type 0
  IsPlace a s (Some (good.Place p)) = IsPlaceOf place q a s p
  IsPlace a s _ = ⊥

  -- What goes in, where the call is in its lane's script: the child and the tap of a line that was
  -- started, and a place after its commit, with the files that the lane was granted last. With all
  -- other calls nothing does.
  abbrev pub GoesIn : History → ℕ → Call → Option (Good K T P) → Type 0
  GoesIn h lane (call.Launched l start.Done) g =
      InScript (answer_after q) h lane (call.Launched l start.Done) × IsLine l g
  GoesIn h lane (call.Committed a b how) g =
      InScript (answer_after q) h lane (call.Committed a b how)
      × IsPlace a (Back (claimed (calls_by lane h)) how) g
  GoesIn h lane _ g = g ≡ None

  -- What comes out with a move: a tap, a child, at a Halt the child that lies there, a place to
  -- which nothing was written
  abbrev pub Comes : History → ℕ → Move → Option (Good K T P) → Type 0
  Comes h w (TakeTap l) g = IsTap l g
  Comes h w (TakeChild l) g = IsChild (Some l) g
  Comes h w GiveUp g = IsChild (child_at w h) g
  Comes h w (TakePlace a files) g = IsPlace a Fresh g
  Comes h w (PutLine l) g = g ≡ None
  Comes h w (PutPlace a how) g = g ≡ None
  Comes h w Nothing g = g ≡ None

  abbrev pub ComesOut : History → ℕ → Call → Reply → Option (Good K T P) → Type 0
  ComesOut h lane c r g = Comes h (lane / 2) (move_in lane c r) g

-- what is left on the shelf: the taps that no lane has taken, and the places that no lane has
pub record Remains {T P : Type 0} (tap : T → TapTold) (place : P → PlaceTold)
    (q : Discipline) (h : History) (tap_slots : List (Option T)) (place_slots : List (Option P))
    : Type 0 where
  pub taps : TapsLie tap q h tap_slots
  pub places : PlacesLie place q h place_slots
