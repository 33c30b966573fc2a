-- A tap lane at work.
use Rattle.std.specs.Prelude.{◌≡◌, ℕ}
use Rattle.seat_desk.specs.declared.machine.Machine.{Ghosts}
use Rattle.seat_desk.specs.Passes.{IsSamePass, mine, basis}
use Rattle.exec_journal.specs.declared.call.Call.{Call}
use Rattle.exec_journal.specs.declared.reply.Reply.{Reply}
use Rattle.core_contract.specs.Discipline.{Discipline}
use Rattle.core_contract.specs.Moves.{History}
use Rattle.core_contract.specs.Laws.{Hearing, hearing_of}
use Rattle.tap_lane.specs.Heard.{IsTapLane}
use Rattle.tap_lane.specs.declared.lane.TapLane.{TapLane}

module _ {M G Q : Type 0} {g : Ghosts M Call Reply G Q} where
  -- its number
  abbrev pub number : TapLane M Call Reply G Q g → ℕ
  number x = x.caller.pass.lane

  -- its own entries
  abbrev pub own : TapLane M Call Reply G Q g → History
  own x = mine x.caller.pass

  -- it is the tap lane of one of the berths
  abbrev pub IsOfBerth : (Q → Discipline) → TapLane M Call Reply G Q g → Type 0
  IsOfBerth rules x = IsTapLane (rules (basis x.caller.pass)).seats (number x)

  -- so it is, and this is what it hears now
  pub record IsAt (rules : Q → Discipline) (now : Hearing) (x : TapLane M Call Reply G Q g) : Type 0 where
    pub lane : IsOfBerth rules x
    pub hears : hearing_of (own x) ≡ now

  -- it has the pass that it had, and its lines speak what they spoke
  pub record IsSameLane (x x' : TapLane M Call Reply G Q g) : Type 0 where
    pub same : IsSamePass x.caller.pass x'.caller.pass
    pub speech : x'.speech ≡ x.speech
