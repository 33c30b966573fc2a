-- The lines of a proxy lane: what their feeds were given, and that their children were killed.
use Rattle.std.specs.Prelude.{◌≡◌, ℕ, ◌+◌, ◌-◌, ◌^◌, ◌≤◌, ◌==◌, min, if◌then◌else◌, List, [], ◌∷◌, ◌++◌, map, All, Option, Some, None, IfSome}
use Rattle.outside.specs.Lists.{Tells, Adds}
use Rattle.outside.specs.Told.{BerthTold, SameBerth, FeedTold, ChildTold}
use Rattle.outside.specs.declared.berth.BerthCall.TheVariants as berth
use Rattle.exec_journal.specs.declared.call.Call.{Call}
use Rattle.exec_journal.specs.declared.call.Call.TheVariants as call
use Rattle.exec_journal.specs.declared.call.Started.TheVariants as start
use Rattle.exec_journal.specs.declared.call.Written.TheVariants as write
use Rattle.exec_journal.specs.declared.call.Found.TheVariants as found
use Rattle.core_contract.specs.Moves.{History}
use Rattle.proxy_words.specs.declared.halt.ProxyHalt.{ProxyHalt}
use Rattle.proxy_words.specs.declared.halt.ProxyHalt.TheVariants as cause
use Rattle.proxy_words.specs.Deeds.{Deed, calls_of, given_to}

-- ---- lines that were started

abbrev pub started_by : Call → List ℕ
started_by (call.Launched l start.Done) = l ∷ []
started_by _ = []

-- by the lane's entries
abbrev pub started_in : History → List ℕ
started_in [] = []
started_in (e ∷ es) = started_by e.call ++ started_in es

-- ---- faults

-- 1 where the call reports a fault of the room or of the launch
abbrev pub room_fault : Call → ℕ
room_fault (call.Launched l start.RoomFault) = 1
room_fault (call.Launched l start.LaunchFault) = 1
room_fault (call.Wrote l n write.RoomFault) = 1
room_fault (call.Claim a b t found.RoomFault) = 1
room_fault _ = 0

abbrev pub room_faults : History → ℕ
room_faults [] = 0
room_faults (e ∷ es) = room_fault e.call + room_faults es

-- 1 where it reports a fault of the line's feed
abbrev pub feed_fault : ℕ → Call → ℕ
feed_fault l (call.Wrote k n write.FeedFault) = if k == l then 1 else 0
feed_fault l _ = 0

abbrev pub feed_faults : ℕ → History → ℕ
feed_faults l [] = 0
feed_faults l (e ∷ es) = feed_fault l e.call + feed_faults l es

-- a count of faults has risen so often, or stands at the end of its type
abbrev pub RoseBy : ℕ → ℕ → ℕ → Type 0
RoseBy n before now = min (before + n) (2 ^ 64 - 1) ≤ now

-- ---- what comes of a line

-- a line's feed and its child, by what they tell
pub record Returned : Type 0 where
  pub line : ℕ
  pub feed : FeedTold
  pub child : ChildTold

-- the feed was given what the deeds gave, and has failed where the entries say so
pub record IsFed (own : History) (deeds : List Deed) (line : ℕ) (feed : FeedTold) : Type 0 where
  pub of_line : IfSome feed.line (λ l. l ≡ line)
  pub given : Tells feed.given (given_to line deeds)
  pub faults : RoseBy (feed_faults line own) 0 feed.faults

-- the line's child was killed, once
pub record IsKilled (line : ℕ) (child : ChildTold) : Type 0 where
  pub of_line : IfSome child.line (λ l. l ≡ line)
  pub killed : IfSome child.kills (λ n. n ≡ 1)

abbrev pub IsBack : History → List Deed → Returned → Type 0
IsBack own deeds x = IsFed own deeds x.line x.feed × IsKilled x.line x.child

-- the calls stand in the berth's log, and its count has risen with each fault that was reported
pub record IsServed (own : History) (deeds : List Deed) (old new : BerthTold) : Type 0 where
  pub log : Adds (calls_of deeds) old.log new.log
  pub faults : RoseBy (room_faults own) old.faults new.faults
  pub same : SameBerth old new

-- its End stands in the berth's log
pub record EndsLine (line : ℕ) (old new : BerthTold) : Type 0 where
  pub log : Adds (berth.End line ∷ []) old.log new.log
  pub later : old.faults ≤ new.faults
  pub same : SameBerth old new

abbrev pub lines_of : List Returned → List ℕ
lines_of backs = map (λ x. x.line) backs

abbrev pub listed : {A : Type 0} → Option A → List A
listed None = []
listed (Some x) = x ∷ []

-- the line that was started, and that the lane halted over, since there was no memory to report it
abbrev pub unsaid_by : Option ProxyHalt → List ℕ
unsaid_by (Some (cause.Refused (call.Launched l start.Done))) = l ∷ []
unsaid_by _ = []

-- Each line that the entries say was started comes back, in order, with its child killed, and so does
-- the one that could not be reported.
pub record AreBack (own : History) (deeds : List Deed) (halted : Option ProxyHalt) (backs : List Returned)
    (unsaid : Option Returned) : Type 0 where
  pub lines : lines_of backs ≡ started_in own
  pub each : All (IsBack own deeds) backs
  pub last : lines_of (listed unsaid) ≡ unsaid_by halted
  pub also : All (IsBack own deeds) (listed unsaid)
