-- The branches that came to nothing, by a journal whose newest entry stands first.
use Rattle.std.specs.Prelude.{ℕ, zero, suc, List, [], ◌∷◌, ◌++◌, length, Option, Some, None, option_copied}
use Rattle.run_plan.specs.declared.plan.Branch.{Branch}
use Rattle.run_plan.specs.declared.plan.Branch.TheVariants.{Local, Remote}
use Rattle.run_plan.specs.declared.plan.Plan.{Plan}
use Rattle.exec_journal.specs.declared.call.Answer.{Answer}
use Rattle.exec_journal.specs.declared.ends.Cause.{Cause}
use Rattle.exec_journal.specs.declared.ends.Cause.TheVariants as cause
use Rattle.exec_journal.specs.declared.ends.Fate.{Fate}
use Rattle.exec_journal.specs.declared.ends.Fate.TheVariants as fate
use Rattle.exec_journal.specs.Entry.{Entry}
use Rattle.exec_journal.specs.Entries.{attempt_of}
use Rattle.exec_journal.specs.Words.{match_of}
use Rattle.exec_journal.specs.Outcomes.{fate_of}
use Rattle.branch_losses.specs.declared.attempts.Order.{Order}
use Rattle.branch_losses.specs.declared.lost.Loss.{Loss}
use Rattle.branch_losses.specs.Last.{order_of}

-- a loss with the answer itself
pub record LossTold : Type 0 where
  pub action : ℕ
  pub branch : Branch
  pub fate : Fate
  pub order : Option Order
  pub refusal : Option Answer

abbrev pub loss_told : Loss → LossTold
loss_told x = record {
  action = x.action;
  branch = x.branch;
  fate = x.fate;
  order = x.order;
  refusal = option_copied x.refusal;
}

-- of an attempt that was dropped the answer counts where it was refused
abbrev pub refusal_by : Cause → Option Answer → Option Answer
refusal_by cause.Refused answer = answer
refusal_by _ answer = None

-- what is lost of a branch with this fate: the last order for its last attempt, and the answer
-- to it
abbrev pub lost_by : ℕ → Branch → Fate → Option Order → Option Answer → Option LossTold
lost_by a b (fate.Dropped c n) order answer = Some (record {
  action = a;
  branch = b;
  fate = fate.Dropped c n;
  order = order;
  refusal = refusal_by c answer;
})
lost_by a b (fate.Spoiled k) order answer =
    Some (record { action = a; branch = b; fate = fate.Spoiled k; order = None; refusal = None })
lost_by a b _ order answer = None

-- an executor's answer to the attempt with this number; a worker's isn't looked at
abbrev pub executors_answer : List Entry → ℕ → Branch → ℕ → Option Answer
executors_answer j a Local n = None
executors_answer j a Remote n = match_of j (attempt_of a Remote n)

-- by its fate and its last attempt, which has the limit's number
abbrev pub lost_of : Plan → List Entry → ℕ → Branch → Option LossTold
lost_of p j a b = lost_by a b (fate_of p j a b) (order_of j (attempt_of a b p.limit))
    (executors_answer j a b p.limit)

abbrev pub as_list : {X : Type 0} → Option X → List X
as_list (Some x) = x ∷ []
as_list None = []

-- those of the actions before this number
abbrev pub losses_before : Plan → List Entry → ℕ → List LossTold
losses_before p j zero = []
losses_before p j (suc a) = losses_before p j a
    ++ (as_list (lost_of p j a Local) ++ as_list (lost_of p j a Remote))

-- all of them, action by action, the local branch first
abbrev pub losses_of : Plan → List Entry → List LossTold
losses_of p j = losses_before p j (length p.actions)
