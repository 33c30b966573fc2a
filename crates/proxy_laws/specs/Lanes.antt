-- What a proxy lane has done so far, and what it has in its hands.
use Rattle.std.specs.Prelude.{◌≡◌, ◌<◌, ℕ, List, [], ◌∷◌, ◌++◌, map, All, Option, Some, None, option_map}
use Rattle.seat_desk.specs.History.{entry}
use Rattle.exec_journal.specs.declared.call.Call.{Call}
use Rattle.exec_journal.specs.declared.call.Call.TheVariants as call
use Rattle.exec_journal.specs.declared.reply.Reply.{Reply}
use Rattle.exec_journal.specs.declared.reply.Reply.TheVariants as reply
use Rattle.outside.specs.Told.{BerthTold, FeedTold, ChildTold}
use Rattle.core_contract.specs.Moves.{History}
use Rattle.core_contract.specs.Laws.{lines_in}
use Rattle.core_contract.specs.Duties.{Asks, duty_of}
use Rattle.run_values.specs.Settings.{Means}
use Rattle.proxy_words.specs.declared.halt.ProxyHalt.{ProxyHalt}
use Rattle.proxy_words.specs.Deeds.{Deed, Acts, given_to, with_ends}
use Rattle.proxy_words.specs.Told.{AllTold}
use Rattle.proxy_words.specs.Lines.{Returned, IsFed, IsBack, IsServed, feed_faults, started_in, lines_of, listed, unsaid_by}
use Rattle.proxy_words.specs.Ends.{HaltsBy}
use Rattle.proxy_laws.specs.declared.hands.EndedFeed.{EndedFeed}
use Rattle.proxy_laws.specs.declared.hands.OpenFeed.{OpenFeed}

-- the line that is open, by what its feed tells
pub record Open : Type 0 where
  pub line : ℕ
  pub feed : FeedTold

-- what the lane has in its hands, by what it tells
pub record LaneObjects : Type 0 where
  pub berth : BerthTold
  pub opened : Option Open
  pub ended : List Returned
  pub unsaid : Option Returned

abbrev pub back_of : {D K : Type 0} → (D → FeedTold) → (K → ChildTold) → EndedFeed D K → Returned
back_of feed child x = record { line = x.line; feed = feed x.feed; child = child x.child }

abbrev pub open_of : {D : Type 0} → (D → FeedTold) → OpenFeed D → Open
open_of feed x = record { line = x.line; feed = feed x.feed }

abbrev pub open_line : Option Open → Option ℕ
open_line o = option_map (λ x. x.line) o

-- the lines that ended came before the open one
abbrev pub IsAfter : Option Open → List Returned → Type 0
IsAfter None ended = Unit {0}
IsAfter (Some o) ended = All (λ x. x.line < o.line) ended

-- the open line's feed was given what the deeds gave
abbrev pub IsOpenFed : History → List Deed → Option Open → Type 0
IsOpenFed own deeds None = Unit {0}
IsOpenFed own deeds (Some o) = IsFed own deeds o.line o.feed

module _ (rule : History → ℕ → Call → Reply) (lane : ℕ) where
  -- after these entries with these deeds. All but the unsaid line were reported as started.
  pub record Holds (own : History) (deeds : List Deed) (seen : History) (first : BerthTold) (h : LaneObjects)
      : Type 0 where
    pub told : AllTold rule lane seen deeds
    pub berth : IsServed own deeds first h.berth
    pub ended : All (IsBack own deeds) h.ended
    pub unsaid : All (IsBack own deeds) (listed h.unsaid)
    pub opened : IsOpenFed own deeds h.opened
    pub lines : lines_of h.ended ++ listed (open_line h.opened) ≡ started_in own
    pub after : IsAfter h.opened h.ended
    pub below : All (λ l. l < lines_in seen) (started_in own)
    -- a line after all that were started was given nothing
    pub untouched : (l : ℕ) → All (λ k. k < l) (started_in own)
        → (given_to l deeds ≡ []) × (feed_faults l own ≡ 0)

  -- the lane has acted so
  pub record Keeps (means : Means) (own seen : History)
      (first : BerthTold) (h : LaneObjects) : Type 0 where
    pub deeds : List Deed
    pub acts : Acts means Asks own deeds
    pub holds : Holds own deeds seen first h
    pub all_said : h.unsaid ≡ None

  -- It has acted so, and found no memory then. A line that it couldn't report was ended.
  pub record Halting (means : Means) (cause : ProxyHalt) (own seen : History)
      (first : BerthTold) (h : LaneObjects) : Type 0 where
    pub deeds : List Deed
    pub last : Deed
    pub acts : Acts means Asks own deeds
    pub halts : HaltsBy means cause (duty_of own) last
    pub holds : Holds (own ++ entry lane call.Halt reply.Noted ∷ [])
        (deeds ++ with_ends (unsaid_by (Some cause)) last ∷ []) seen first h
    pub said : lines_of (listed h.unsaid) ≡ unsaid_by (Some cause)
