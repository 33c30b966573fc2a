-- The Ticks of a lane.
use Rattle.std.specs.Prelude.{◌≡◌, ℕ, true, [], ◌∷◌, ◌++◌, replicate}
use Rattle.seat_desk.specs.declared.machine.Machine.{Ghosts}
use Rattle.seat_desk.specs.declared.desk.Pass.{Pass}
use Rattle.seat_desk.specs.History.{entry}
use Rattle.seat_desk.specs.Passes.{basis}
use Rattle.exec_journal.specs.declared.call.Call.{Call}
use Rattle.exec_journal.specs.declared.call.Call.TheVariants as call
use Rattle.exec_journal.specs.declared.reply.Reply.{Reply}
use Rattle.exec_journal.specs.declared.reply.Reply.TheVariants as reply
use Rattle.core_contract.specs.Discipline.{Discipline}
use Rattle.core_contract.specs.Moves.{Past, History}
use Rattle.core_contract.specs.Duties.{proxy_lane}
use Rattle.proxy_calls.specs.Calls.{IsProxyOf}
use Rattle.tick_lane.specs.declared.calls.Ticked.{Ticked}
use Rattle.tick_lane.specs.declared.calls.Ticked.TheVariants as told
use Rattle.tick_lane.specs.declared.seat.TickEnd.{TickEnd}
use Rattle.tick_lane.specs.declared.seat.TickEnd.TheVariants as end
use Rattle.tick_lane.specs.Pacers.{RoseBy}

-- the pass is that of the proxy lane of the berth w, which makes Ticks
pub record IsTicker {M G Q : Type 0} {g : Ghosts M Call Reply G Q} (rules : Q → Discipline)
    (w : ℕ) (p : Pass M Call Reply G Q g) : Type 0 where
  pub proxy : IsProxyOf rules w p
  pub makes : (rules (basis p)).ticks (proxy_lane w) ≡ true

abbrev pub reply_of : Ticked → Reply
reply_of told.Noted = reply.Noted
reply_of told.Stop = reply.Stop

-- The lane's own entries: Ticks that were noted, and then the rest. For each of those its pacer
-- counted a tick.
pub record HasTicked (lane told told' : ℕ) (rest own : History) : Type 0 where
  pub noted : ℕ
  pub made : own ≡ replicate noted (entry lane call.Tick reply.Noted) ++ rest
  pub paced : RoseBy noted told told'

-- the last entry of a lane that has ended so
abbrev pub last_entry : ℕ → TickEnd → Past
last_entry lane end.Stopped = entry lane call.Tick reply.Stop
last_entry lane end.Halted = entry lane call.Halt reply.Noted

-- its own entries, by how it has ended
abbrev pub LaneTicks : ℕ → ℕ → ℕ → TickEnd → History → Type 0
LaneTicks lane told told' how own = HasTicked lane told told' (last_entry lane how ∷ []) own
