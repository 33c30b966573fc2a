-- When the table's states are those of a journal, whose newest entry stands first.
use Rattle.std.specs.Prelude.{◌≡◌, ℕ, Bool, ◌&&◌, not, unwrap_or, option_map, Option, if◌then◌else◌, List, slice_get}
use Rattle.run_plan.specs.declared.plan.Branch.{Branch}
use Rattle.run_plan.specs.declared.plan.Branch.TheVariants.{Local, Remote}
use Rattle.run_plan.specs.declared.plan.Plan.{Plan}
use Rattle.run_plan.specs.declared.plan.PlanAction.{PlanAction}
use Rattle.exec_journal.specs.declared.attempt.Attempt.{Attempt}
use Rattle.exec_journal.specs.declared.ends.Standing.{Standing}
use Rattle.exec_journal.specs.declared.ends.Standing.TheVariants.{Open, Unsuccessful}
use Rattle.exec_journal.specs.Entry.{Entry}
use Rattle.exec_journal.specs.Words.{grant_of, granted}
use Rattle.exec_journal.specs.Attempts.{dropped}
use Rattle.exec_journal.specs.Settled.{by_grant, all_dropped, is_under_way}
use Rattle.ready_order.specs.declared.ActionState.{ActionState}
use Rattle.ready_order.specs.Queue.{producers_of}

-- no attempt of the branch is under way, and it isn't dropped: it has had none, or the latest has ended below the limit
unfoldable pub is_free : Plan → List Entry → ℕ → Branch → Bool
is_free p j a b = not (is_under_way j a b) && not (dropped p j a b)

-- the action's standing by its own grant, commit and drops, whatever its producers' are
unfoldable pub own_in : Plan → List Entry → ℕ → PlanAction → Standing
own_in p j a x = unwrap_or (by_grant j (grant_of j a)) (if all_dropped p j a x then Unsuccessful else Open)

abbrev pub state_in : Plan → List Entry → ℕ → PlanAction → ActionState
state_in p j a x = record {
  producers = producers_of x;
  local = record { group = x.local; free = is_free p j a Local };
  remote = record { group = x.remote; free = is_free p j a Remote };
  granted = granted j a;
  own = own_in p j a x;
}

-- it has the plan's actions with their producers and groups, each in the journal's state
pub record Stands (p : Plan) (states : List ActionState) (j : List Entry) : Type 0 where
  pub each : (a : ℕ) → slice_get states a ≡ option_map (state_in p j a) (slice_get p.actions a)

-- of the attempt that a branch begins next, the action and the branch
abbrev pub branch_of : Option Attempt → Option (ℕ × Branch)
branch_of o = option_map (λ t. (t.action, t.branch)) o
