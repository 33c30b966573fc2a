-- What every history of a core says, in one record.
use Rattle.std.specs.Prelude.{◌≤◌}
use Rattle.core_contract.specs.Discipline.{Discipline, line_room}
use Rattle.core_contract.specs.Ruled.{CameAbout}
use Rattle.core_contract.specs.Laws.{lines_in}
use Rattle.core_contract.specs.Moves.{History}
use Rattle.lane_laws.specs.Pipes.{SaysWhatTapsTell, SilentUnlessGiven}
use Rattle.lane_laws.specs.Places.{PlacesAreBack}
use Rattle.lane_laws.specs.Taps.{StartedAreTapped, ShelvedAreUntaken}
use Rattle.lane_laws.specs.Lines.{StartedAreApart}
use Rattle.lane_laws.specs.Lanes.{OnlyKnownLanesSpeak, TakenAreTapped, EndedHaveLeft}
use Rattle.lane_laws.specs.Halts.{EndsTellHalts, HaltsAreByLanes}

-- a history that a core stands for is legal
abbrev pub StandLegal : {S Q : Type 0} → (S → History → Type 0) → (S → Q) → (Q → Discipline)
    → Type 0
StandLegal {S} {Q} stands plan rules =
    (m : S) (h : History) → stands m h → CameAbout (rules (plan m)) h

-- a legal history orders no more lines than there may be
abbrev pub LinesFit : {Q : Type 0} → (Q → Discipline) → Type 0
LinesFit {Q} rules =
    (b : Q) (h : History) → CameAbout (rules b) h → lines_in h ≤ line_room (rules b)

-- what the lanes' laws say of all of its histories
pub record HistoryLaws {Q : Type 0} (rules : Q → Discipline) : Type 0 where
  pub places : PlacesAreBack rules
  pub tapped : StartedAreTapped rules
  pub untaken : ShelvedAreUntaken rules
  pub apart : StartedAreApart rules
  pub known : OnlyKnownLanesSpeak rules
  pub says : SaysWhatTapsTell rules
  pub silent : SilentUnlessGiven rules
  pub taken : TakenAreTapped
  pub left : EndedHaveLeft
  pub halts : EndsTellHalts
  pub by_lanes : HaltsAreByLanes
