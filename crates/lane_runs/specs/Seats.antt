-- What the lanes of berths work with.
use Rattle.std.specs.Prelude.{◌≡◌, ℕ, ◌+◌, List, [], ◌∷◌, ◌++◌, Some, slice_get}
use Rattle.lane_threads.specs.declared.pair.Either.{Either}
use Rattle.lane_threads.specs.declared.pair.Either.TheVariants.{First, Second}
use Rattle.run_plan.specs.declared.plan.Speech.{Speech}
use Rattle.run_plan.specs.Groups.{is_remote}
use Rattle.core_contract.specs.Discipline.{Discipline}
use Rattle.run_values.specs.declared.settings.Settings.{Settings}
use Rattle.run_values.specs.Settings.{Means, speaks_remote}
use Rattle.remote_messages.specs.declared.work.WorkAction.{WorkAction}
use Rattle.lane_runs.specs.declared.proxies.ProxyStart.{ProxyStart}
use Rattle.tap_lane.specs.declared.seat.TapStart.{TapStart}

-- what the orders of a berth that speaks so are carried out by
abbrev pub means_for : Settings → List WorkAction → Speech → Means
means_for settings actions spoken =
    record { speech = spoken; settings = settings; actions = actions }

-- the tap lane of the berth w hears this speech
abbrev pub IsTapStart : ℕ → Speech → TapStart → Type 0
IsTapStart w spoken seat = (seat.berth ≡ w) × (seat.speech ≡ spoken)

-- each berth speaks as executors do exactly if it is an executor's
abbrev pub SpeechesFit : Discipline → List Speech → Type 0
SpeechesFit q speeches = (w : ℕ) (s : Speech) → slice_get speeches w ≡ Some s
    → speaks_remote s ≡ is_remote (q.kinds w)

-- by what the seat has, its orders are carried out
abbrev pub means_of : {B : Type 0} → ProxyStart B → Means
means_of seat = means_for seat.settings.now seat.actions.now seat.speech

module _ {B : Type 0} (settings : Settings) (actions : List WorkAction) where
  -- the proxy lane of this berth, whose number is w, goes by this speech
  abbrev pub IsProxyStart : ℕ → B → Speech → ProxyStart B → Type 0
  IsProxyStart w berth spoken seat =
      (seat.berth ≡ berth) × (seat.number ≡ w) × (means_of seat ≡ means_for settings actions spoken)

  -- for each of these berths, from the number w on, its proxy lane and then its tap lane
  abbrev pub AreSeats : ℕ → List B → List Speech → List (Either (ProxyStart B) TapStart) → Type 0
  AreSeats w [] [] lanes = lanes ≡ []
  AreSeats w (b ∷ bs) (s ∷ ss) (First x ∷ Second y ∷ lanes) =
      IsProxyStart w b s x × IsTapStart w s y × AreSeats (w + 1) bs ss lanes
  AreSeats w _ _ _ = ⊥

  -- the two lanes of this berth stand behind those before
  pub record HasSeats (w : ℕ) (berth : B) (spoken : Speech)
      (old new : List (Either (ProxyStart B) TapStart)) : Type 0 where
    pub proxy : ProxyStart B
    pub heard : TapStart
    pub is_proxy : IsProxyStart w berth spoken proxy
    pub is_tap : IsTapStart w spoken heard
    pub grown : new ≡ old ++ First proxy ∷ Second heard ∷ []

-- the berths of these lanes, in order
abbrev pub berths_in : {B : Type 0} → List (Either (ProxyStart B) TapStart) → List B
berths_in [] = []
berths_in (First x ∷ lanes) = x.berth ∷ berths_in lanes
berths_in (Second y ∷ lanes) = berths_in lanes
