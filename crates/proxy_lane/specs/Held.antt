-- What a proxy lane has in its hands, by what it tells.
use Rattle.std.specs.Prelude.{◌≡◌, ◌<◌, ℕ, [], map, Option, Some, None, option_map, vec_len, vec_capacity}
use Rattle.std.specs.Global.{Vec}
use Rattle.outside.specs.Told.{BerthTold, FeedTold, ChildTold}
use Rattle.proxy_laws.specs.declared.hands.EndedFeed.{EndedFeed}
use Rattle.proxy_laws.specs.declared.hands.OpenFeed.{OpenFeed}
use Rattle.proxy_laws.specs.Lanes.{LaneObjects, Open, open_of, back_of}

abbrev pub held_of : {B D K : Type 0} → (B → BerthTold) → (D → FeedTold) → (K → ChildTold)
    → B → Option (OpenFeed D) → Vec (EndedFeed D K) → Option (EndedFeed D K) → LaneObjects
held_of told feed child b line ended unsaid = record {
  berth = told b;
  opened = option_map (open_of feed) line;
  ended = map (back_of feed child) ended.items;
  unsaid = option_map (back_of feed child) unsaid;
}

-- no line was started
abbrev pub first_held : BerthTold → LaneObjects
first_held b = record { berth = b; opened = None; ended = []; unsaid = None }

-- there is room for the open line among those that ended
abbrev pub HasRoom : {D K : Type 0} → Option (OpenFeed D) → Vec (EndedFeed D K) → Type 0
HasRoom line ended =
    (l : ℕ) → option_map (λ x. x.line) line ≡ Some l → vec_len ended < vec_capacity ended

-- a line is open
abbrev pub IsOpen : LaneObjects → Type 0
IsOpen h = (o : Open) × (h.opened ≡ Some o)

-- the same, but for what the berth tells
abbrev pub with_berth : BerthTold → LaneObjects → LaneObjects
with_berth b h = record h { berth = b }

-- the same, but for what the berth tells, and the feed of this open line
abbrev pub with_feed : BerthTold → Open → FeedTold → LaneObjects → LaneObjects
with_feed b o f h = record h { berth = b; opened = Some (record { line = o.line; feed = f }) }

-- So was it done by the berth and by the feed of the open line. All else is as it was.
pub record ByOpenLine (Done : BerthTold → BerthTold → FeedTold → FeedTold → Type 0)
    (h h' : LaneObjects) : Type 0 where
  pub was_open : Open
  pub feed : FeedTold
  pub was : h.opened ≡ Some was_open
  pub is : h' ≡ with_feed h'.berth was_open feed h
  pub done : Done h.berth h'.berth was_open.feed feed
