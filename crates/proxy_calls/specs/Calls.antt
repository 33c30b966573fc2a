-- What a call of a proxy lane asks of its pass, and what it leaves.
use Rattle.std.specs.Prelude.{◌≡◌, ℕ, ◌<◌, true, [], ◌∷◌, ◌++◌}
use Rattle.seat_desk.specs.declared.machine.Machine.{Ghosts}
use Rattle.seat_desk.specs.declared.desk.Pass.{Pass}
use Rattle.seat_desk.specs.History.{entry, StartsWith}
use Rattle.seat_desk.specs.Passes.{IsSamePass, mine, basis, seen}
use Rattle.exec_journal.specs.declared.call.Call.{Call}
use Rattle.exec_journal.specs.declared.reply.Reply.{Reply}
use Rattle.core_contract.specs.Discipline.{Discipline}
use Rattle.core_contract.specs.Duties.{proxy_lane, duty_of, may_do}

module _ {M G Q : Type 0} {g : Ghosts M Call Reply G Q} where
  -- the pass is that of the proxy lane of the berth w, one of the discipline's berths
  abbrev pub IsProxyOf : (Q → Discipline) → ℕ → Pass M Call Reply G Q g → Type 0
  IsProxyOf rules w p = (p.lane ≡ proxy_lane w) × (w < (rules (basis p)).seats)

  -- by its own entries the lane may make the call
  abbrev pub MayMake : (Q → Discipline) → ℕ → Pass M Call Reply G Q g → Call → Type 0
  MayMake rules w p c = may_do (rules (basis p)) w (duty_of (mine p)) c ≡ true

  -- the lane made no entry
  abbrev pub MakesNone : Pass M Call Reply G Q g → Pass M Call Reply G Q g → Type 0
  MakesNone p p' = StartsWith (seen p') (seen p) × (mine p' ≡ mine p)

  -- it made this one
  abbrev pub MakesOne : Call → Reply → Pass M Call Reply G Q g → Pass M Call Reply G Q g → Type 0
  MakesOne c r p p' =
      StartsWith (seen p') (seen p) × (mine p' ≡ mine p ++ entry p.lane c r ∷ [])

  -- the pass is the same, and the lane made no entry
  pub record Stays (p p' : Pass M Call Reply G Q g) : Type 0 where
    pub same : IsSamePass p p'
    pub none : MakesNone p p'
