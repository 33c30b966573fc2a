-- Who speaks in a history, and how its lanes have ended.
use Rattle.std.specs.Prelude.{◌≡◌, ℕ, ◌*◌, ◌<◌, false, List, [], ◌∷◌, ◌++◌, map, All, Option, None}
use Rattle.std.specs.List.{list_any}
use Rattle.outside.specs.Told.{TapTold}
use Rattle.run_plan.specs.declared.plan.Speech.{Speech}
use Rattle.exec_journal.specs.declared.reply.Reply.TheVariants as reply
use Rattle.exec_journal.specs.Entries.{is_halt}
use Rattle.core_contract.specs.Ruled.{CameAbout}
use Rattle.core_contract.specs.Discipline.{Discipline}
use Rattle.core_contract.specs.Moves.{Past, History}
use Rattle.tap_lane.specs.declared.ends.TapHalt.{TapHalt}
use Rattle.tap_lane.specs.Lane.{LaneEnds}
use Rattle.run_values.specs.Settings.{Means}
use Rattle.proxy_words.specs.declared.halt.ProxyHalt.{ProxyHalt}
use Rattle.proxy_words.specs.Deeds.{Deed}
use Rattle.proxy_words.specs.Ends.{Ends}
use Rattle.lane_laws.specs.Taps.{taken_in}
use Rattle.lane_laws.specs.Places.{HasLeft}

-- Each entry is by one of the two lanes of a berth.
abbrev pub OnlyKnownLanesSpeak : {Q : Type 0} → (Q → Discipline) → Type 0
OnlyKnownLanesSpeak {Q} rules =
    (b : Q) (h : History) → CameAbout (rules b) h → All (λ e. e.lane < 2 * (rules b).seats) h

-- Where these entries are what a tap lane leaves with these taps, the lines that it took are those
-- of the taps, in order.
abbrev pub TakenAreTapped : Type 0
TakenAreTapped =
    (s : Speech) (lane : ℕ) (halted : Option TapHalt) (taps : List (ℕ × TapTold)) (own : History)
    → LaneEnds s lane halted taps own → taken_in own ≡ map (λ t. t.0) taps

-- the lane made no Halt, and was told to stop by its last reply
pub record WasStopped (own : History) : Type 0 where
  pub no_halt : list_any (λ e. is_halt e.call) own ≡ false
  pub front : History
  pub last : Past
  pub are : own ≡ front ++ last ∷ []
  pub stop : last.reply ≡ reply.Stop

-- Where a proxy lane has ended so, it has left, and where it didn't halt, it was told to stop.
abbrev pub EndedHaveLeft : Type 0
EndedHaveLeft =
    (means : Means) (lane : ℕ) (own : History) (deeds : List Deed)
    → ((halted : Option ProxyHalt) → Ends means lane halted own deeds → HasLeft own)
    × (Ends means lane None own deeds → WasStopped own)
