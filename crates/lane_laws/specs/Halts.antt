-- Which lanes made a Halt.
use Rattle.std.specs.Prelude.{◌≡◌, ℕ, ◌<◌, Bool, true, false, List, All, Some, None}
use Rattle.std.specs.List.{list_any}
use Rattle.seat_desk.specs.History.{calls_by}
use Rattle.outside.specs.Told.{TapTold}
use Rattle.run_plan.specs.declared.plan.Speech.{Speech}
use Rattle.exec_journal.specs.Entries.{is_halt}
use Rattle.core_contract.specs.Moves.{History}
use Rattle.tap_lane.specs.declared.ends.TapHalt.{TapHalt}
use Rattle.tap_lane.specs.Lane.{LaneEnds}
use Rattle.run_values.specs.Settings.{Means}
use Rattle.proxy_words.specs.declared.halt.ProxyHalt.{ProxyHalt}
use Rattle.proxy_words.specs.Deeds.{Deed}
use Rattle.proxy_words.specs.Ends.{Ends}
use Rattle.lane_laws.specs.Lanes.{WasStopped}

-- one of the entries is a Halt
abbrev pub has_halt : History → Bool
has_halt h = list_any (λ e. is_halt e.call) h

-- A tap lane that has ended without a want was told to stop; with one it has halted. So has a proxy
-- lane that ended with a cause.
pub record EndsTellHalts : Type 0 where
  pub stopped : (s : Speech) (lane : ℕ) (taps : List (ℕ × TapTold)) (own : History)
      → LaneEnds s lane None taps own → WasStopped own
  pub halted : (s : Speech) (lane : ℕ) (want : TapHalt) (taps : List (ℕ × TapTold)) (own : History)
      → LaneEnds s lane (Some want) taps own → has_halt own ≡ true
  pub proxy_halted : (means : Means) (lane : ℕ) (cause : ProxyHalt)
      (own : History) (deeds : List Deed)
      → Ends means lane (Some cause) own deeds → has_halt own ≡ true

-- A lane's Halt is one of the history; and where each entry is by one of the first lanes, of which
-- none made a Halt, the history has none.
pub record HaltsAreByLanes : Type 0 where
  pub some : (lane : ℕ) (h : History) → has_halt (calls_by lane h) ≡ true → has_halt h ≡ true
  pub none : (lanes : ℕ) (h : History) → All (λ e. e.lane < lanes) h
      → ((lane : ℕ) → lane < lanes → has_halt (calls_by lane h) ≡ false) → has_halt h ≡ false
