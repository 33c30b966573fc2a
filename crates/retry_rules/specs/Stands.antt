-- When the table's facts are those of a journal, whose newest entry stands first.
use Rattle.std.specs.Prelude.{◌≡◌, ℕ, ◌-◌, nat_lt, Some, None, if◌then◌else◌, List, length, slice_get}
use Rattle.run_plan.specs.declared.plan.Branch.{Branch}
use Rattle.run_plan.specs.declared.plan.Branch.TheVariants.{Local, Remote}
use Rattle.run_plan.specs.declared.plan.Plan.{Plan}
use Rattle.exec_journal.specs.Entry.{Entry}
use Rattle.exec_journal.specs.Entries.{attempt_of}
use Rattle.exec_journal.specs.Attempts.{attempt, ended}
use Rattle.retry_rules.specs.declared.EndedCounts.{EndedCounts}
use Rattle.retry_rules.specs.Counts.{Facts}

-- how many attempts of the branch have ended: all up to its latest, or all but that one
unfoldable pub ended_count : List Entry → ℕ → Branch → ℕ
ended_count j a b =
    if ended j (attempt_of a b (attempt j a b)) then attempt j a b else attempt j a b - 1

abbrev pub ended_in : List Entry → ℕ → EndedCounts
ended_in j a = record { local = ended_count j a Local; remote = ended_count j a Remote }

-- it has so many actions as the plan, with the journal's counts
pub record Stands (p : Plan) (f : Facts) (j : List Entry) : Type 0 where
  pub limit : f.limit ≡ p.limit
  pub each : (a : ℕ)
      → slice_get f.ended a ≡ (if nat_lt a (length p.actions) then Some (ended_in j a) else None)
