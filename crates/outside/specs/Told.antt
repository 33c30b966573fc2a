-- What each object of the outside tells: its counts always, and what it holds where it tells it.
use Rattle.std.specs.Prelude.{◌≡◌, ℕ, ◌+◌, List, Bool, Option}
use Rattle.outside.specs.declared.berth.BerthCall.{BerthCall}
use Rattle.outside.specs.declared.floor.FloorRead.{FloorRead}
use Rattle.outside.specs.declared.floor.SourceFile.{SourceFile}
use Rattle.outside.specs.declared.place.PlaceWrite.{PlaceWrite}
use Rattle.outside.specs.declared.shop.ShopCall.{ShopCall}

-- how often it has failed, its files, its reads so far, and how many berths and places it has made
pub record FloorTold : Type 0 where
  pub faults : ℕ
  pub files : Option (List SourceFile)
  pub log : Option (List FloorRead)
  pub berths : ℕ
  pub places : ℕ

-- its number, how often it has failed, and the calls so far with their answers
pub record BerthTold : Type 0 where
  pub number : ℕ
  pub faults : ℕ
  pub log : Option (List BerthCall)

-- The action whose place it is, how often it has failed, and the writes that were done, in order. A
-- write that was made and then undone stays in it.
pub record PlaceTold : Type 0 where
  pub number : ℕ
  pub faults : ℕ
  pub log : Option (List PlaceWrite)

-- the line whose feed it is, how often it has failed, and the bytes given
pub record FeedTold : Type 0 where
  pub line : Option ℕ
  pub faults : ℕ
  pub given : Option (List ℕ)

-- the line whose tap it is, how often it has failed, the bytes taken, and whether a read has
-- answered End
pub record TapTold : Type 0 where
  pub line : Option ℕ
  pub faults : ℕ
  pub taken : Option (List ℕ)
  pub ended : Option Bool

-- the line whose child it is, and how often it has been killed
pub record ChildTold : Type 0 where
  pub line : Option ℕ
  pub kills : Option ℕ

-- how often it has failed, and the bytes put
pub record SinkTold : Type 0 where
  pub faults : ℕ
  pub contents : Option (List ℕ)

-- how often it has failed, and the calls so far with their answers
pub record ShopTold : Type 0 where
  pub faults : ℕ
  pub log : Option (List ShopCall)

-- the three objects of a line that was launched
pub record LineTold : Type 0 where
  pub feed : FeedTold
  pub tap : TapTold
  pub child : ChildTold

abbrev pub line_told : FeedTold → TapTold → ChildTold → LineTold
line_told feed tap child = record { feed = feed; tap = tap; child = child }

-- a floor's files, and how many berths and places it has made
pub record Ground : Type 0 where
  pub files : Option (List SourceFile)
  pub berths : ℕ
  pub places : ℕ

abbrev pub ground : FloorTold → Ground
ground floor =
    record { files = floor.files; berths = floor.berths; places = floor.places }

-- A floor that is only read has the same files, and makes nothing.
abbrev pub SameFloor : FloorTold → FloorTold → Type 0
SameFloor old new = ground new ≡ ground old

-- it has made b berths and p places more, and has the same files
pub record Makes (b p : ℕ) (old new : FloorTold) : Type 0 where
  pub files : new.files ≡ old.files
  pub berths : new.berths ≡ old.berths + b
  pub places : new.places ≡ old.places + p

-- What an object is doesn't change: the floor's files, the number of a berth or a place, the line
-- of a feed, a tap or a child.
abbrev pub SameFiles : FloorTold → FloorTold → Type 0
SameFiles old new = new.files ≡ old.files

abbrev pub SameBerth : BerthTold → BerthTold → Type 0
SameBerth old new = new.number ≡ old.number

abbrev pub SamePlace : PlaceTold → PlaceTold → Type 0
SamePlace old new = new.number ≡ old.number

abbrev pub SameFeed : FeedTold → FeedTold → Type 0
SameFeed old new = new.line ≡ old.line

abbrev pub SameTap : TapTold → TapTold → Type 0
SameTap old new = new.line ≡ old.line

abbrev pub SameChild : ChildTold → ChildTold → Type 0
SameChild old new = new.line ≡ old.line
