-- The duty that a lane's newest work leaves.
use Rattle.std.specs.Prelude.{◌≡◌, ℕ, ◌*◌, Bool, true, false, ◌||◌, List, [], ◌∷◌, length, Option, Some, None, fold, slice_get, unwrap_or, option_map}
use Rattle.exec_journal.specs.declared.call.Call.{Call}
use Rattle.exec_journal.specs.declared.call.Call.TheVariants as call
use Rattle.exec_journal.specs.declared.reply.Reply.{Reply}
use Rattle.exec_journal.specs.Entry.{Entry}
use Rattle.exec_journal.specs.Words.{last_work, stopped, has_halted}
use Rattle.run_plan.specs.declared.plan.Kind.{Kind}
use Rattle.run_plan.specs.declared.plan.Plan.{Plan}
use Rattle.run_plan.specs.declared.plan.Maker.{Maker}
use Rattle.run_plan.specs.Groups.{is_remote}
use Rattle.core_contract.specs.Moves.{History}
use Rattle.core_contract.specs.Duties.{Duty, Asks, Launches, Sends, Cancels, Gathers, Commits, Kills, Left, ordered, duty_of_claim}

abbrev pub has_left : Duty → Bool
has_left Left = true
has_left Asks = false
has_left (Launches l t) = false
has_left (Sends l n t) = false
has_left (Cancels l n) = false
has_left (Gathers l n t exit refused) = false
has_left (Commits a b fs) = false
has_left (Kills l) = false

-- what a work asks for, which is neither a Look nor a Halt
abbrev pub duty_of_work : Call → Reply → Duty
duty_of_work (call.Claim a b t f) r = duty_of_claim a b f r
duty_of_work _ r = ordered r

-- what the newest work asks for
abbrev pub owed_by : Option Entry → Duty
owed_by None = Asks
owed_by (Some e) = duty_of_work e.call e.reply

pub record DutyIs (s : Duty) (j : List Entry) (lane : ℕ) : Type 0 where
  pub gone : has_left s ≡ (stopped j lane || has_halted j lane)
  pub owed : has_left s ≡ false → s ≡ owed_by (last_work j lane)
