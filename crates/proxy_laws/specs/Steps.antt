-- What each step of a proxy lane asks and leaves.
use Rattle.std.specs.Prelude.{◌≡◌, ◌<◌, ℕ, List, length, Option, Some, None, option_map, All, ℤ, Result, Ok, Err, ◌⊎◌, Bool, true, false, [], ◌∷◌, ◌++◌}
use Rattle.seat_desk.specs.declared.machine.Machine.{Ghosts}
use Rattle.seat_desk.specs.declared.desk.Pass.{Pass}
use Rattle.seat_desk.specs.Passes.{mine, basis, seen}
use Rattle.exec_journal.specs.declared.call.Call.{Call}
use Rattle.exec_journal.specs.declared.call.Call.TheVariants as call
use Rattle.exec_journal.specs.declared.call.Written.{Written}
use Rattle.exec_journal.specs.declared.reply.Reply.{Reply}
use Rattle.exec_journal.specs.declared.reply.Reply.TheVariants as reply
use Rattle.exec_journal.specs.Scripts.{is_whole_or_fault}
use Rattle.plain_values.specs.declared.no_memory.NoMemory.{NoMemory}
use Rattle.outside.specs.Launches.{IsNewChild}
use Rattle.outside.specs.Told.{BerthTold, ChildTold}
use Rattle.exec_journal.specs.declared.attempt.Attempt.{Attempt}
use Rattle.exec_journal.specs.declared.call.CommitEnd.{CommitEnd}
use Rattle.exec_journal.specs.declared.call.Found.{Found}
use Rattle.exec_journal.specs.declared.call.Found.TheVariants as found
use Rattle.seat_desk.specs.History.{entry, StartsWith}
use Rattle.core_contract.specs.Ruled.{answer_after}
use Rattle.core_contract.specs.Discipline.{Discipline}
use Rattle.core_contract.specs.Moves.{History}
use Rattle.core_contract.specs.Shelf.{child_at}
use Rattle.core_contract.specs.Laws.{lines_in}
use Rattle.run_values.specs.Settings.{HasGroup, Means}
use Rattle.proxy_words.specs.declared.halt.ProxyHalt.{ProxyHalt}
use Rattle.proxy_words.specs.declared.halt.ProxyHalt.TheVariants as cause
use Rattle.proxy_words.specs.Deeds.{Deed}
use Rattle.proxy_words.specs.Told.{AllTold}
use Rattle.proxy_words.specs.Ends.{Ends}
use Rattle.core_contract.specs.Duties.{Duty, Asks, Launches, Sends, Cancels, Gathers, Commits, Kills, Left, duty_of}
use Rattle.proxy_calls.specs.declared.asking.Answered.{Answered}
use Rattle.proxy_calls.specs.declared.asking.Order.{Order}
use Rattle.proxy_calls.specs.declared.asking.Order.TheVariants as order
use Rattle.proxy_calls.specs.Calls.{MakesOne, MayMake}
use Rattle.proxy_calls.specs.Claims.{claim_of}
use Rattle.proxy_words.specs.Lines.{Returned, EndsLine, IsKilled, IsServed, AreBack, started_in}
use Rattle.proxy_laws.specs.Lanes.{Open, LaneObjects, Keeps, Halting, open_line}

-- the files that were found
abbrev pub files_in : Found → List (List ℕ)
files_in (found.Files fs) = fs
files_in (found.Exit x) = []
files_in (found.Missing k) = []
files_in found.RoomFault = []
files_in found.Refused = []

abbrev pub HasFiles : Found → Type 0
HasFiles f = (fs : List (List ℕ)) × (f ≡ found.Files fs)

-- the Committed of files that were granted, after these entries
abbrev pub HasCommitted : Attempt → Found → ℕ → History → History → Type 0
HasCommitted t f lane own own' = (duty_of own ≡ Commits t.action t.branch (files_in f))
    × ((how : CommitEnd)
    × (own' ≡ own ++ entry lane (call.Committed t.action t.branch how) reply.Noted ∷ []))

-- why the lane halts: there was no memory for the files, or for the Claim
abbrev pub IsCauseOfClaim : Attempt → Found → ProxyHalt → Type 0
IsCauseOfClaim t f cause.NoMemory = HasFiles f
IsCauseOfClaim t f (cause.Refused c) = c ≡ claim_of t f

-- the open line was laid by, with its child, which the berth has ended
pub record IsLaidBy (line : ℕ) (h h' : LaneObjects) : Type 0 where
  pub was_open : Open
  pub back : Returned
  pub was : h.opened ≡ Some was_open
  pub of_line : was_open.line ≡ line
  pub is_back : (back.line ≡ was_open.line) × (back.feed ≡ was_open.feed)
      × IsKilled back.line back.child
  pub ended : h'.ended ≡ h.ended ++ back ∷ []
  pub by_berth : EndsLine line h.berth h'.berth
  pub rest : (h'.opened ≡ None) × (h'.unsaid ≡ h.unsaid)

-- so was every line that was open
abbrev pub AreLaidBy : Option ℕ → LaneObjects → LaneObjects → Type 0
AreLaidBy None h h' = h' ≡ h
AreLaidBy (Some l) h h' = IsLaidBy l h h'

-- The lane has ended: what its entries, its berth, its feeds and its children come to.
pub record Ended (means : Means) (rule : History → ℕ → Call → Reply)
    (lane : ℕ) (own seen : History) (old new : BerthTold) (feeds : List Returned)
    (unsaid : Option Returned) (halted : Option ProxyHalt) : Type 0 where
  pub deeds : List Deed
  pub ends : Ends means lane halted own deeds
  pub told : AllTold rule lane seen deeds
  pub berth : IsServed own deeds old new
  pub lines : AreBack own deeds halted feeds unsaid

-- the lane may report it
abbrev pub OwesWrote : ℕ → ℤ → Result Written NoMemory → History → Type 0
OwesWrote l n (Ok how) own = ((t : Attempt) × (duty_of own ≡ Sends l n t))
    ⊎ ((duty_of own ≡ Cancels l n) × (is_whole_or_fault how ≡ true))
OwesWrote l n (Err e) own = Unit {0}

abbrev pub IsCauseOf : ℕ → ℤ → Result Written NoMemory → ProxyHalt → Type 0
IsCauseOf l n (Ok how) by = by ≡ cause.Refused (call.Wrote l n how)
IsCauseOf l n (Err e) by = by ≡ cause.NoMemory

-- what the lane owes where this answer is to be gathered
abbrev pub gathers : Answered → Duty
gathers x = Gathers x.line x.number x.attempt x.exit x.refused

-- the line that is open
abbrev pub open_in : LaneObjects → Option ℕ
open_in h = open_line h.opened

module _ {M G Q : Type 0} {g : Ghosts M Call Reply G Q} where
  -- the child of the open line lies on the shelf for the berth, and none where no line is open
  abbrev pub IsShelved : ℕ → Pass M Call Reply G Q g → Option ℕ → Type 0
  IsShelved w p line = child_at w (mine p) ≡ line

  -- no line with a number from this one on was started, and this one was ordered
  abbrev pub IsNewLine : ℕ → Pass M Call Reply G Q g → Type 0
  IsNewLine l p = All (λ k. k < l) (started_in (mine p)) × (l < lines_in (seen p))

  module _ (means : Means) (rules : Q → Discipline) where
    -- what the lane has done holds of what it has in its hands, whatever its berth had told at first
    abbrev pub Goes : Pass M Call Reply G Q g → LaneObjects → Pass M Call Reply G Q g → LaneObjects → Type 0
    Goes p h p' h' = (first : BerthTold)
        → Keeps (answer_after (rules (basis p))) p.lane means (mine p) (seen p) first h
        → Keeps (answer_after (rules (basis p))) p.lane means (mine p') (seen p') first h'

    -- so it does, of some berth at first
    abbrev pub SomeKeeps : Pass M Call Reply G Q g → LaneObjects → Type 0
    SomeKeeps p h = (first : BerthTold)
        × Keeps (answer_after (rules (basis p))) p.lane means (mine p) (seen p) first h

    abbrev pub Halts : ProxyHalt → Pass M Call Reply G Q g → LaneObjects → Pass M Call Reply G Q g → LaneObjects
        → Type 0
    Halts cause p h p' h' = (first : BerthTold)
        → Keeps (answer_after (rules (basis p))) p.lane means (mine p) (seen p) first h
        → Halting (answer_after (rules (basis p))) p.lane means cause (mine p') (seen p') first h'

  -- ---- the report of what was written

  abbrev pub TellsWrote : ℕ → ℤ → Result Written NoMemory → Pass M Call Reply G Q g
      → Pass M Call Reply G Q g → Type 0
  TellsWrote l n (Ok how) p p' = MakesOne (call.Wrote l n how) reply.Noted p p'
  TellsWrote l n (Err e) p p' = ⊥

  -- ---- the Claim of what was found

  abbrev pub OwesClaim : (Q → Discipline) → ℕ → Attempt → Found → Pass M Call Reply G Q g → Type 0
  OwesClaim rules w t f p = MayMake rules w p (claim_of t f)

  -- The Claim was made, and where files were granted, their Committed after it.
  abbrev pub ClaimsFound : Attempt → Found → Pass M Call Reply G Q g → Pass M Call Reply G Q g
      → Type 0
  ClaimsFound t f p p' = StartsWith (seen p') (seen p)
      × ((r : Reply) × (own : History) × (own ≡ mine p ++ entry p.lane (claim_of t f) r ∷ [])
      × ((mine p' ≡ own) ⊎ HasCommitted t f p.lane own (mine p')))

  -- ---- an order

  -- what holds where the lane is ordered so
  abbrev pub MayObey : {K : Type 0} → Means → (K → ChildTold) → ℕ → Order K
      → Pass M Call Reply G Q g → Option ℕ → Type 0
  MayObey means told w (order.Launch l t) p line =
      (duty_of (mine p) ≡ Launches l t) × (line ≡ None) × IsShelved w p line × IsNewLine l p
      × HasGroup means.settings t
  MayObey means told w (order.Send l n t) p line =
      (duty_of (mine p) ≡ Sends l n t) × (line ≡ Some l) × IsShelved w p line
      × (t.action < length means.actions) × HasGroup means.settings t
  MayObey means told w (order.Cancel l n) p line =
      (duty_of (mine p) ≡ Cancels l n) × (line ≡ Some l) × IsShelved w p line
  MayObey means told w (order.Gather x) p line =
      (duty_of (mine p) ≡ gathers x) × IsShelved w p line × (x.attempt.action < length means.actions)
      × HasGroup means.settings x.attempt
  MayObey means told w (order.Kill l k) p line =
      (duty_of (mine p) ≡ Kills l) × (line ≡ Some l) × IsShelved w p None × IsNewChild l (told k)

  -- ---- a round, and the whole lane

  module _ (means : Means) (rules : Q → Discipline) where
    -- there may be more, or the lane was told to stop, and no line is open
    abbrev pub GoesTo : Bool → Pass M Call Reply G Q g → LaneObjects → Pass M Call Reply G Q g → LaneObjects
        → Type 0
    GoesTo true p h p' h' = (duty_of (mine p') ≡ Asks) × Goes means rules p h p' h'
    GoesTo false p h p' h' =
        (duty_of (mine p') ≡ Left) × (h'.opened ≡ None) × Goes means rules p h p' h'

    -- the lane has ended so, if what it had done by then held
    abbrev pub Finishes : Option ProxyHalt → Pass M Call Reply G Q g → LaneObjects → Pass M Call Reply G Q g
        → LaneObjects → Type 0
    Finishes halted p h p' h' = (first : BerthTold)
        → Keeps (answer_after (rules (basis p))) p.lane means (mine p) (seen p) first h
        → Ended means (answer_after (rules (basis p))) p.lane (mine p') (seen p') first h'.berth h'.ended
        h'.unsaid halted

    -- the lane has served its berth
    abbrev pub IsServedBy : BerthTold → BerthTold → List Returned → Option Returned → Option ProxyHalt
        → Pass M Call Reply G Q g → Type 0
    IsServedBy old new feeds unsaid halted p =
        Ended means (answer_after (rules (basis p))) p.lane (mine p) (seen p) old new feeds unsaid halted
