-- When the table's rows are those of a journal, whose newest entry stands first.
use Rattle.std.specs.Prelude.{◌≡◌, ℕ, nat_lt, Bool, true, false, Option, Some, None, option_map, if◌then◌else◌, List, length, slice_get}
use Rattle.run_plan.specs.declared.plan.Branch.{Branch}
use Rattle.run_plan.specs.declared.plan.Plan.{Plan}
use Rattle.exec_journal.specs.declared.attempt.Attempt.{Attempt}
use Rattle.exec_journal.specs.Entry.{Entry}
use Rattle.exec_journal.specs.declared.call.Found.{Found}
use Rattle.exec_journal.specs.declared.call.CommitEnd.{CommitEnd}
use Rattle.exec_journal.specs.declared.call.CommitEnd.TheVariants as commit
use Rattle.exec_journal.specs.Words.{grant_of, commit_of}
use Rattle.race_core.specs.declared.Won.{Won}

abbrev pub is_done : CommitEnd → Bool
is_done commit.Done = true
is_done (commit.PlaceFault n) = false

abbrev pub branch_in : Option (Attempt × Found) → Option Branch
branch_in o = option_map (λ x. x.0.branch) o

-- whether the winner was committed with Done, where it was committed
abbrev pub commit_by : List Entry → ℕ → Option (Attempt × Found) → Option Bool
commit_by j a (Some x) = option_map is_done (commit_of j a x.0.branch)
commit_by j a None = None

unfoldable pub won_in : List Entry → ℕ → Won
won_in j a = record { winner = branch_in (grant_of j a); committed = commit_by j a (grant_of j a) }

-- it has so many rows as the plan has actions, each as the journal has it
pub record Stands (p : Plan) (rows : List Won) (j : List Entry) : Type 0 where
  pub each : (a : ℕ)
      → slice_get rows a ≡ (if nat_lt a (length p.actions) then Some (won_in j a) else None)
