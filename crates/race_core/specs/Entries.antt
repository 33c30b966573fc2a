-- What the laws ask of a journal and its next entry.
use Rattle.std.specs.Prelude.{◌≡◌, ℕ, Some, None, List}
use Rattle.run_plan.specs.declared.plan.Branch.{Branch}
use Rattle.exec_journal.specs.Entry.{Entry}
use Rattle.exec_journal.specs.Words.{grant_of, commit_of}
use Rattle.race_core.specs.Stands.{branch_in}

-- before its grant an action has neither a grant nor a Committed
pub record IsOpen (j : List Entry) (a : ℕ) : Type 0 where
  pub ungranted : grant_of j a ≡ None
  pub uncommitted : (b : Branch) → commit_of j a b ≡ None

-- a Committed comes once, from the winner
pub record WonBy (j : List Entry) (a : ℕ) (b : Branch) : Type 0 where
  pub winner : branch_in (grant_of j a) ≡ Some b
  pub uncommitted : commit_of j a b ≡ None

-- the entry is neither a grant nor a Committed
pub record SameRace (j k : List Entry) : Type 0 where
  pub grant : (a : ℕ) → grant_of k a ≡ grant_of j a
  pub commit : (a : ℕ) (b : Branch) → commit_of k a b ≡ commit_of j a b
