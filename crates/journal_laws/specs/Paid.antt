-- Which calls a journal pays for: there is room for their entries, whatever comes before them.
use Rattle.std.specs.Prelude.{ℕ, zero, suc, ◌+◌, ◌*◌, nat_lt, Bool, true, false, ◌&&◌, not, Option, Some, None, List}
use Rattle.run_plan.specs.declared.plan.Plan.{Plan}
use Rattle.run_plan.specs.Groups.{berths}
use Rattle.exec_journal.specs.Entry.{Entry}
use Rattle.exec_journal.specs.declared.call.Call.{Call}
use Rattle.exec_journal.specs.declared.call.Call.TheVariants as call
use Rattle.exec_journal.specs.declared.call.Found.TheVariants as found
use Rattle.exec_journal.specs.declared.reply.Reply.{Reply}
use Rattle.exec_journal.specs.declared.reply.Reply.TheVariants as reply
use Rattle.exec_journal.specs.Words.{last_work, stopped, has_halted}
use Rattle.exec_journal.specs.Scripts.{is_owed_commit}

-- the lane neither stopped nor halted
abbrev pub may_halt : List Entry → ℕ → Bool
may_halt j lane = not (stopped j lane) && not (has_halted j lane)

-- one Halt of each lane of the plan that neither stopped nor halted, and a Committed that is owed
abbrev pub seat_paid : ℕ → List Entry → ℕ → Call → Bool
seat_paid seats j lane call.Halt = nat_lt lane (2 * seats) && may_halt j lane
seat_paid seats j lane c = nat_lt lane (2 * seats) && is_owed_commit c (last_work j lane)

-- by the plan's own berths
abbrev pub is_paid : Plan → List Entry → ℕ → Call → Bool
is_paid p j lane c = seat_paid (berths p) j lane c

-- ---- how many of them are still to come

abbrev pub wins_files : Call → Reply → Bool
wins_files (call.Claim a b t (found.Files f)) reply.Granted = true
wins_files _ _ = false

-- a lane with this newest work owes a Committed
abbrev pub owes_files : Option Entry → Bool
owes_files (Some e) = wins_files e.call e.reply
owes_files None = false

abbrev pub count : Bool → ℕ
count true = 1
count false = 0

unfoldable pub lane_owes : List Entry → ℕ → ℕ
lane_owes j lane = count (may_halt j lane) + count (owes_files (last_work j lane))

-- all lanes below n
unfoldable pub lanes_owe : List Entry → ℕ → ℕ
lanes_owe j zero = 0
lanes_owe j (suc n) = lanes_owe j n + lane_owes j n

abbrev pub seats_owe : ℕ → List Entry → ℕ
seats_owe seats j = lanes_owe j (2 * seats)

abbrev pub owes : Plan → List Entry → ℕ
owes p j = seats_owe (berths p) j
