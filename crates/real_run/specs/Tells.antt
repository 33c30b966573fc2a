-- That objects tell what they hold.
use Rattle.std.specs.Prelude.{◌≡◌, IfSome, IsSome, Option}
use Rattle.std.specs.List.{AllByRecursion}
use Rattle.outside.specs.Told.{BerthTold, ChildTold, FeedTold, LineTold, PlaceTold, TapTold}
use Rattle.proxy_words.specs.Lines.{Returned}
use Rattle.lane_runs.specs.Runs.{EndTold}
use Rattle.worker_run.specs.Seen.{EndedTold, Left}

abbrev pub BerthTells : BerthTold → Type 0
BerthTells b = IsSome b.log

abbrev pub PlaceTells : PlaceTold → Type 0
PlaceTells p = IsSome p.log

-- its line, and what it was given, unless it has failed
pub record FeedTells (feed : FeedTold) : Type 0 where
  pub line : IsSome feed.line
  pub given : feed.faults ≡ 0 → IsSome feed.given

-- what was taken from it, and whether it has ended
pub record TapTells (tap : TapTold) : Type 0 where
  pub taken : IsSome tap.taken
  pub ended : IsSome tap.ended

-- its line, and how often it was killed
pub record ChildTells (child : ChildTold) : Type 0 where
  pub line : IsSome child.line
  pub kills : IsSome child.kills

pub record LineTells (line : LineTold) : Type 0 where
  pub feed : FeedTells line.feed
  pub tap : TapTells line.tap
  pub child : ChildTells line.child

-- where the line was started
abbrev pub EndTells : EndTold → Type 0
EndTells e = IfSome e.line LineTells

pub record BackTells (line : Returned) : Type 0 where
  pub feed : FeedTells line.feed
  pub child : ChildTells line.child

-- where there is such a line
abbrev pub UnsaidTells : Option Returned → Type 0
UnsaidTells u = IfSome u BackTells

-- all objects that a run has left tell
pub record LeftTells (x : Left) : Type 0 where
  pub berths : AllByRecursion BerthTells x.berths
  pub lines : AllByRecursion EndTells x.lines
  pub unsaid : AllByRecursion UnsaidTells x.unsaid
  pub places : AllByRecursion PlaceTells x.places

-- and the floor does
pub record AllTell (end : EndedTold) : Type 0 where
  pub floor : IsSome end.floor.log
  pub left : LeftTells end.left
