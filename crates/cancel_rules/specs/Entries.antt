-- What the laws ask of a journal and its next entry.
use Rattle.std.specs.Prelude.{◌≡◌, ℕ, ◌<◌, List, length}
use Rattle.run_plan.specs.declared.plan.Plan.{Plan}
use Rattle.exec_journal.specs.Entry.{Entry}
use Rattle.exec_journal.specs.Rules.{is_unwanted}
use Rattle.exec_journal.specs.Words.{pending, granted}
use Rattle.request_table.specs.Entries.{EachOf}

-- each pending request of the line is of an action of the plan, and isn't wanted exactly where that
-- action has a grant
pub record WantedByGrant (p : Plan) (j : List Entry) (l : ℕ) : Type 0 where
  pub within : EachOf (λ r. r.attempt.action < length p.actions) (pending j l)
  pub grants : EachOf (λ r. is_unwanted p j r ≡ granted j r.attempt.action) (pending j l)
