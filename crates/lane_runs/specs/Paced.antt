-- The lane that makes Ticks, beside those of the berths.
use Rattle.std.specs.Prelude.{◌≡◌, ◌<◌, ℕ, true, Option, Some, None}
use Rattle.seat_desk.specs.History.{calls_by}
use Rattle.core_contract.specs.Duties.{proxy_lane}
use Rattle.core_contract.specs.Moves.{History}
use Rattle.core_contract.specs.Discipline.{Discipline}
use Rattle.tick_lane.specs.declared.seat.TickEnd.{TickEnd}
use Rattle.tick_lane.specs.declared.seat.TickLeft.{TickLeft}
use Rattle.tick_lane.specs.declared.seat.TickStart.{TickStart}
use Rattle.tick_lane.specs.Ticks.{LaneTicks}

module _ {W : Type 0} where
  -- where there is a pacer, there is a berth w, whose proxy lane makes Ticks
  abbrev pub MayPace : Discipline → ℕ → Option W → Type 0
  MayPace q w None = Unit {0}
  MayPace q w (Some pacer) = (w < q.seats) × (q.ticks (proxy_lane w) ≡ true)

  -- that lane, as it is to run
  abbrev pub seat_for : ℕ → Option W → Option (TickStart W)
  seat_for w None = None
  seat_for w (Some pacer) = Some (record { berth = w; pacer = pacer })

  -- its pacer, where it hasn't run
  abbrev pub pacer_back : Option (TickStart W) → Option W
  pacer_back None = None
  pacer_back (Some seat) = Some seat.pacer

  -- the pacer of the lane that has run
  abbrev pub pacer_left : Option (TickLeft W) → Option W
  pacer_left None = None
  pacer_left (Some left) = Some left.pacer

  -- All entries of the lane are Ticks that were noted, as many as its pacer has counted ticks, and
  -- then its last.
  abbrev pub HasPaced : (W → ℕ) → ℕ → Option W → Option W → History → Type 0
  HasPaced told lane None None h = Unit {0}
  HasPaced told lane (Some before) (Some after) h =
      (how : TickEnd) × LaneTicks lane (told before) (told after) how (calls_by lane h)
  HasPaced told lane None (Some after) h = ⊥
  HasPaced told lane (Some before) None h = ⊥
