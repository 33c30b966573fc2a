-- What is left of the lines of a berth, and the halves that it makes.
use Rattle.std.specs.Prelude.{◌≡◌, ℕ, ◌<◌, All, List, ◌++◌, map, length, Option, option_to_list, zip, flat_map}
use Rattle.proxy_laws.specs.declared.hands.EndedFeed.{EndedFeed}
use Rattle.tap_lane.specs.declared.ends.EndedTap.{EndedTap}
use Rattle.lane_runs.specs.Placed.{Numbered}
use Rattle.lane_runs.specs.declared.halves.Halves.{Halves}

-- what is left of the lines of a berth
pub record BerthLines (D T K : Type 0) : Type 0 where
  -- the feeds with their children, in the order of the lines
  pub feeds : List (EndedFeed D K)
  -- the taps that its tap lane took, in that order
  pub taps : List (EndedTap T)
  -- the tap of the line behind these, if no lane took it
  pub shelved : Option T

abbrev pub berth_lines : {D T K : Type 0} → List (EndedFeed D K) → List (EndedTap T) → Option T
    → BerthLines D T K
berth_lines feeds taps shelved = record { feeds = feeds; taps = taps; shelved = shelved }

-- taps of a lane, and behind them the one that no lane took
abbrev pub taps_left : {T : Type 0} → List (EndedTap T) → Option T → List T
taps_left taps shelved = map (λ x. x.tap) taps ++ option_to_list shelved

module _ {D T K : Type 0} where
  abbrev pub feed_lines : BerthLines D T K → List ℕ
  feed_lines b = map (λ x. x.line) b.feeds

  abbrev pub tap_lines : BerthLines D T K → List ℕ
  tap_lines b = map (λ x. x.line) b.taps

  -- the lines of its feeds are, in order, those of its taps, and behind them one more exactly where
  -- a tap is shelved
  pub record IsMatched (b : BerthLines D T K) : Type 0 where
    pub more : List ℕ
    pub lines : feed_lines b ≡ tap_lines b ++ more
    pub as_many : length more ≡ length (option_to_list b.shelved)

  -- a feed with its child, and a tap, at the line of the feed
  abbrev pub halves_with : EndedFeed D K × T → Numbered (Halves D T K)
  halves_with x =
      record { line = x.0.line; thing = record { feed = x.0.feed; tap = x.1; child = x.0.child } }

  -- each feed of the berth with the tap in the same place
  abbrev pub halves_of : BerthLines D T K → List (Numbered (Halves D T K))
  halves_of b = map halves_with (zip b.feeds (taps_left b.taps b.shelved))

  -- all of these, berth by berth
  abbrev pub all_halves : List (BerthLines D T K) → List (Numbered (Halves D T K))
  all_halves berths = flat_map halves_of berths

  abbrev pub all_feed_lines : List (BerthLines D T K) → List ℕ
  all_feed_lines berths = flat_map feed_lines berths

  -- the berth's feeds have their taps, and its lines are among so many
  pub record IsInside (count : ℕ) (b : BerthLines D T K) : Type 0 where
    pub matched : IsMatched b
    pub below : All (λ line. line < count) (feed_lines b)

  -- each berth's feeds have their taps, and all lines are among so many
  pub record AreInside (count : ℕ) (lines : List (BerthLines D T K)) : Type 0 where
    pub matched : All IsMatched lines
    pub below : All (λ line. line < count) (all_feed_lines lines)
