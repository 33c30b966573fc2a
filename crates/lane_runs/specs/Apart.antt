-- The ends of all lanes, berth by berth.
use Rattle.std.specs.Prelude.{◌≡◌, List, [], ◌∷◌, Option}
use Rattle.lane_threads.specs.declared.pair.Either.{Either}
use Rattle.lane_threads.specs.declared.pair.Either.TheVariants.{First, Second}
use Rattle.proxy_lane.specs.declared.lane.ProxyLeft.{ProxyLeft}
use Rattle.tap_lane.specs.declared.ends.TapLeft.{TapLeft}
use Rattle.proxy_laws.specs.declared.hands.EndedFeed.{EndedFeed}
use Rattle.lane_runs.specs.BerthHalves.{BerthLines, berth_lines}

module _ {B D T K : Type 0} where
  -- for each slot of the shelf the end of a proxy lane, and then that of a tap lane
  abbrev pub Alternate : List (Option T) → List (Either (ProxyLeft B D K) (TapLeft T)) → Type 0
  Alternate [] ends = ends ≡ []
  Alternate (s ∷ slots) (First x ∷ Second y ∷ ends) = Alternate slots ends
  Alternate (s ∷ slots) _ = ⊥

  -- what the two ends and the slot leave of the berth's lines
  abbrev pub lines_left : ProxyLeft B D K → TapLeft T → Option T → BerthLines D T K
  lines_left proxy heard slot = berth_lines proxy.feeds.items heard.taps.items slot

  -- the berths, in order
  abbrev pub berths_of : List (Option T) → List (Either (ProxyLeft B D K) (TapLeft T)) → List B
  berths_of [] ends = []
  berths_of (s ∷ slots) (First x ∷ Second y ∷ ends) = x.berth ∷ berths_of slots ends
  berths_of (s ∷ slots) _ = []

  -- what is left of the lines of each
  abbrev pub lefts_of : List (Option T) → List (Either (ProxyLeft B D K) (TapLeft T))
      → List (BerthLines D T K)
  lefts_of [] ends = []
  lefts_of (s ∷ slots) (First x ∷ Second y ∷ ends) = lines_left x y s ∷ lefts_of slots ends
  lefts_of (s ∷ slots) _ = []

  -- the line of each that was started and not reported
  abbrev pub unsaid_of : List (Option T) → List (Either (ProxyLeft B D K) (TapLeft T))
      → List (Option (EndedFeed D K))
  unsaid_of [] ends = []
  unsaid_of (s ∷ slots) (First x ∷ Second y ∷ ends) = x.unsaid ∷ unsaid_of slots ends
  unsaid_of (s ∷ slots) _ = []

  abbrev pub BeginsWithTwo : List (Either (ProxyLeft B D K) (TapLeft T)) → Type 0
  BeginsWithTwo (First x ∷ Second y ∷ ends) = Unit {0}
  BeginsWithTwo _ = ⊥
