-- What the lanes leave, laid out by number.
use Rattle.std.specs.Prelude.{◌≡◌, ◌<◌, ◌^◌, ℕ, length, List, [], ◌∷◌, map, Bool, is_some, Option, Some, None}
use Rattle.std.specs.List.{list_any}
use Rattle.exec_journal.specs.Entries.{is_halt, launch_in}
use Rattle.exec_journal.specs.Entry.{Entry}
use Rattle.lane_threads.specs.declared.pair.Either.{Either}
use Rattle.lane_laws.specs.Numbers.{Distinct}
use Rattle.core_contract.specs.Moves.{History}
use Rattle.core_contract.specs.Laws.{lines_in}
use Rattle.proxy_lane.specs.declared.lane.ProxyLeft.{ProxyLeft}
use Rattle.tap_lane.specs.declared.ends.TapLeft.{TapLeft}
use Rattle.lane_runs.specs.BerthHalves.{AreInside, BerthLines, all_feed_lines}
use Rattle.lane_runs.specs.EndedLines.{AreLines}
use Rattle.lane_runs.specs.Apart.{Alternate, berths_of, lefts_of, unsaid_of}
use Rattle.lane_runs.specs.Blanks.{IsBlankFor}
use Rattle.lane_runs.specs.declared.blank.Blank.{Blank}
use Rattle.lane_runs.specs.declared.layout.Laid.{Laid}

abbrev pub orders_line : Entry → Bool
orders_line e = is_some (launch_in e.reply)

abbrev pub tells_halt : Entry → Bool
tells_halt e = is_halt e.call

-- some lane has halted
abbrev pub has_halt : History → Bool
has_halt h = list_any (λ e. is_halt e.call) h

-- something lies in each slot
abbrev pub AllThere : {P : Type 0} → List (Option P) → Type 0
AllThere [] = Unit {0}
AllThere (Some p ∷ slots) = AllThere slots
AllThere (None ∷ slots) = ⊥

-- each berth's feeds have their taps, all lines are among so many, and none stands twice
pub record AreFit {D T K : Type 0} (count : ℕ) (lines : List (BerthLines D T K)) : Type 0 where
  pub inside : AreInside count lines
  pub distinct : Distinct (all_feed_lines lines)

module _ {B D T K : Type 0} where
  -- The ends stand berth by berth, as the taps that are left for them; their lines fit, all places
  -- are there, and the room is enough for all of it.
  pub record MayBeLaid {P : Type 0} (h : History)
      (ends : List (Either (ProxyLeft B D K) (TapLeft T))) (taps : List (Option T))
      (slots : List (Option P)) (blank : Blank B D T K P) : Type 0 where
    pub room : IsBlankFor (length taps) (lines_in h) (length slots) blank
    pub few : lines_in h < 2 ^ 32
    pub alternate : Alternate taps ends
    pub fit : AreFit (lines_in h) (lefts_of taps ends)
    pub there : AllThere slots

  -- these are the history, the berths, their lines by number, the line of each that wasn't reported,
  -- and the places
  pub record IsLaid {P : Type 0} (h : History) (ends : List (Either (ProxyLeft B D K) (TapLeft T)))
      (taps : List (Option T)) (slots : List (Option P)) (laid : Laid B D T K P) : Type 0 where
    pub journal : laid.journal ≡ h
    pub berths : laid.berths.items ≡ berths_of taps ends
    pub lines : AreLines (lines_in h) (lefts_of taps ends) laid.lines.items
    pub unsaid : laid.unsaid.items ≡ unsaid_of taps ends
    pub places : slots ≡ map Some laid.places.items
    pub halts : laid.halted ≡ has_halt h
