-- What is known of the feeds and taps of the berths, and of the lines that are made of them.
use Rattle.std.specs.Prelude.{ℕ, ◌+◌, All, IfSome, List, [], ◌∷◌, drop, length}
use Rattle.exec_journal.specs.Entry.{Entry}
use Rattle.exec_journal.specs.Facts.{IsOfBerth}
use Rattle.proxy_laws.specs.declared.hands.EndedFeed.{EndedFeed}
use Rattle.tap_lane.specs.declared.ends.EndedTap.{EndedTap}
use Rattle.lane_laws.specs.Numbers.{In, Distinct}
use Rattle.lane_runs.specs.BerthHalves.{BerthLines, feed_lines}
use Rattle.lane_runs.specs.declared.halves.EndedLine.{EndedLine}
use Rattle.lane_runs.specs.declared.halves.Halves.{Halves}

-- F w l is said of a feed and the child of the line l at the berth w, and G w l so of a tap
module _ {D T K : Type 0} (F : ℕ → ℕ → D → K → Type 0) (G : ℕ → ℕ → T → Type 0) where
  abbrev pub OfFeed : ℕ → EndedFeed D K → Type 0
  OfFeed w x = F w x.line x.feed x.child

  abbrev pub OfTap : ℕ → EndedTap T → Type 0
  OfTap w x = G w x.line x.tap

  -- F holds of each feed of the berth w, G of each tap, and G of the shelved one at the line that
  -- no tap of the lane has
  pub record HasFacts (w : ℕ) (b : BerthLines D T K) : Type 0 where
    pub feeds : All (OfFeed w) b.feeds
    pub taps : All (OfTap w) b.taps
    pub shelved : IfSome b.shelved
        (λ t. All (λ x. G w x.line t) (drop (length b.taps) b.feeds))

  -- so it is with these berths, from the number w on
  abbrev pub EachHasFacts : ℕ → List (BerthLines D T K) → Type 0
  EachHasFacts w [] = Unit {0}
  EachHasFacts w (b ∷ bs) = HasFacts w b × EachHasFacts (w + 1) bs

  -- both hold of the halves of the line l, for some berth
  abbrev pub HaveFacts : ℕ → Halves D T K → Type 0
  HaveFacts l h = (w : ℕ) × F w l h.feed h.child × G w l h.tap

  -- so it is with each line that has halves
  abbrev pub LinesHaveFacts : List (EndedLine D T K) → Type 0
  LinesHaveFacts lines = All (λ x. IfSome x.halves (λ h. HaveFacts x.number h)) lines

module _ {D T K : Type 0} (j : List Entry) where
  -- the feeds of the berth w are of its own lines, and no line has two
  pub record OwnFeeds (w : ℕ) (b : BerthLines D T K) : Type 0 where
    pub own : (l : ℕ) → In l (feed_lines b) → IsOfBerth j l w
    pub once : Distinct (feed_lines b)

  -- so it is with these berths, from the number w on
  abbrev pub EachOwnFeeds : ℕ → List (BerthLines D T K) → Type 0
  EachOwnFeeds w [] = Unit {0}
  EachOwnFeeds w (b ∷ bs) = OwnFeeds w b × EachOwnFeeds (w + 1) bs
