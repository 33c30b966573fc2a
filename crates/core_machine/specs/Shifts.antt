-- What a shift leaves in the slots of the shelf, and what it gives.
use Rattle.std.specs.Prelude.{ℕ, List, Option, Some, None, option_map, set}
use Rattle.core_contract.specs.declared.shift.Shift.{Shift}
use Rattle.core_contract.specs.declared.shift.Shift.TheVariants.{PutLine, TakeTap, TakeChild, TakePlace, PutPlace, Nothing}
use Rattle.core_machine.specs.declared.shelf.Good.{Good}
use Rattle.core_machine.specs.declared.shelf.Good.TheVariants as good
use Rattle.core_machine.specs.Slots.{lies_in, put_in}

module _ {K T P : Type 0} where
  -- what is put with a line: its child and its tap
  abbrev pub child_put : Option (Good K T P) → Option K
  child_put (Some (good.Line k t)) = Some k
  child_put _ = None

  abbrev pub tap_put : Option (Good K T P) → Option T
  tap_put (Some (good.Line k t)) = Some t
  tap_put _ = None

  abbrev pub place_put : Option (Good K T P) → Option P
  place_put (Some (good.Place p)) = Some p
  place_put _ = None

  -- ---- what is in the slots then, where the shift is made for the berth w

  abbrev pub children_then : Shift → ℕ → Option (Good K T P) → List (Option K) → List (Option K)
  children_then PutLine w put slots = put_in (child_put put) w slots
  children_then TakeTap w put slots = slots
  children_then TakeChild w put slots = set slots w None
  children_then (TakePlace a) w put slots = slots
  children_then (PutPlace a) w put slots = slots
  children_then Nothing w put slots = slots

  abbrev pub taps_then : Shift → ℕ → Option (Good K T P) → List (Option T) → List (Option T)
  taps_then PutLine w put slots = put_in (tap_put put) w slots
  taps_then TakeTap w put slots = set slots w None
  taps_then TakeChild w put slots = slots
  taps_then (TakePlace a) w put slots = slots
  taps_then (PutPlace a) w put slots = slots
  taps_then Nothing w put slots = slots

  abbrev pub places_then : Shift → Option (Good K T P) → List (Option P) → List (Option P)
  places_then PutLine put slots = slots
  places_then TakeTap put slots = slots
  places_then TakeChild put slots = slots
  places_then (TakePlace a) put slots = set slots a None
  places_then (PutPlace a) put slots = put_in (place_put put) a slots
  places_then Nothing put slots = slots

  -- what comes out
  abbrev pub good_then : Shift → ℕ → List (Option K) → List (Option T) → List (Option P)
      → Option (Good K T P)
  good_then PutLine w children taps places = None
  good_then TakeTap w children taps places = option_map good.Tap (lies_in taps w)
  good_then TakeChild w children taps places = option_map good.Child (lies_in children w)
  good_then (TakePlace a) w children taps places = option_map good.Place (lies_in places a)
  good_then (PutPlace a) w children taps places = None
  good_then Nothing w children taps places = None
