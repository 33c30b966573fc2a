-- How a proxy lane ends.
use Rattle.std.specs.Prelude.{◌≡◌, ℕ, ◌/◌, List, [], ◌∷◌, ◌++◌, Bool, true, false, Option, Some, None}
use Rattle.seat_desk.specs.History.{entry}
use Rattle.exec_journal.specs.declared.call.Call.TheVariants as call
use Rattle.exec_journal.specs.declared.reply.Reply.TheVariants as reply
use Rattle.core_contract.specs.Moves.{History}
use Rattle.core_contract.specs.Duties.{Duty, Asks, Launches, Sends, Cancels, Gathers, Commits, Kills, Left, duty_of}
use Rattle.run_values.specs.Settings.{Means}
use Rattle.proxy_words.specs.declared.halt.ProxyHalt.{ProxyHalt}
use Rattle.proxy_words.specs.declared.halt.ProxyHalt.TheVariants as cause
use Rattle.core_contract.specs.Shelf.{child_at}
use Rattle.proxy_words.specs.Deeds.{Deed, DeedOf, IsCut, Acts, with_ends}
use Rattle.proxy_words.specs.Lines.{listed, unsaid_by}

-- a lane that owes a Committed makes it first, and one that has left makes nothing
abbrev pub may_halt : Duty → Bool
may_halt (Commits a b fs) = false
may_halt Left = false
may_halt Asks = true
may_halt (Launches l t) = true
may_halt (Sends l n t) = true
may_halt (Cancels l n) = true
may_halt (Gathers l n t exit refused) = true
may_halt (Kills l) = true

-- The lines whose children a lane ends where it halts: the one that was started and that it couldn't
-- report, and the one that is open.
abbrev pub lines_to_end : ℕ → ProxyHalt → History → List ℕ
lines_to_end lane by own = unsaid_by (Some by) ++ listed (child_at (lane / 2) own)

module _ (means : Means) where
  -- what the lane had done where it found no memory: for what it owed, or for the call by which it
  -- would have reported it
  abbrev pub HaltsBy : ProxyHalt → Duty → Deed → Type 0
  HaltsBy cause.NoMemory s d = IsCut means s d
  HaltsBy (cause.Refused c) s d = (may_halt s ≡ true) × DeedOf means s c d

  -- It halted, by its last entry. Behind what it had done it ended the lines that were left.
  pub record Halts (lane : ℕ) (by : ProxyHalt) (own : History) (deeds : List Deed) : Type 0 where
    pub before : History
    pub done : List Deed
    pub last : Deed
    pub made : own ≡ before ++ entry lane call.Halt reply.Noted ∷ []
    pub did : deeds ≡ done ++ with_ends (lines_to_end lane by before) last ∷ []
    pub acts : Acts means Asks before done
    pub halts : HaltsBy by (duty_of before) last

  -- it was told to stop, having made no Halt
  pub record Stops (own : History) (deeds : List Deed) : Type 0 where
    pub acts : Acts means Asks own deeds
    pub left : duty_of own ≡ Left

  -- the one or the other, as it says
  abbrev pub Ends : ℕ → Option ProxyHalt → History → List Deed → Type 0
  Ends lane None own deeds = Stops own deeds
  Ends lane (Some by) own deeds = Halts lane by own deeds
