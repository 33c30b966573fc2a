-- Reports with which nothing goes in, and what they leave.
use Rattle.std.specs.Prelude.{◌≡◌, ℕ, Bool, true, false, Result, Ok, Err}
use Rattle.seat_desk.specs.declared.machine.Machine.{Ghosts}
use Rattle.seat_desk.specs.declared.desk.Pass.{Pass}
use Rattle.seat_desk.specs.Passes.{IsSamePass, mine}
use Rattle.exec_journal.specs.declared.attempt.Attempt.{Attempt}
use Rattle.exec_journal.specs.declared.call.Call.{Call}
use Rattle.exec_journal.specs.declared.call.Call.TheVariants as call
use Rattle.exec_journal.specs.declared.call.Started.TheVariants as start
use Rattle.exec_journal.specs.declared.reply.Reply.{Reply}
use Rattle.exec_journal.specs.declared.reply.Reply.TheVariants as reply
use Rattle.core_contract.specs.Moves.{History}
use Rattle.core_contract.specs.Duties.{Asks, Launches, duty_of}
use Rattle.proxy_words.specs.declared.halt.ProxyHalt.{ProxyHalt}
use Rattle.proxy_words.specs.declared.halt.ProxyHalt.TheVariants as cause
use Rattle.proxy_calls.specs.Calls.{MakesNone, MakesOne}

abbrev pub is_report : Call → Bool
is_report (call.Launched l start.Done) = false
is_report (call.Launched l start.RoomFault) = true
is_report (call.Launched l start.LaunchFault) = true
is_report (call.Wrote l n how) = true
is_report (call.Killed l) = true
is_report _ = false

-- the lane owes the Launched of this line
abbrev pub OwesLaunch : ℕ → History → Type 0
OwesLaunch l own = (t : Attempt) × (duty_of own ≡ Launches l t)

module _ {M G Q A : Type 0} {g : Ghosts M Call Reply G Q} where
  -- the report was made, and the lane may ask again; or it was not, for which the lane is to halt
  abbrev pub Told : Call → Result A ProxyHalt → Pass M Call Reply G Q g → Pass M Call Reply G Q g
      → Type 0
  Told report (Ok done) p p' = MakesOne report reply.Noted p p' × (duty_of (mine p') ≡ Asks)
  Told report (Err by) p p' = (by ≡ cause.Refused report) × MakesNone p p'

  -- what a report leaves
  pub record Reports (report : Call) (result : Result A ProxyHalt) (p p' : Pass M Call Reply G Q g)
      : Type 0 where
    pub same : IsSamePass p p'
    pub told : Told report result p p'
