-- What is asked where several attempts end with one entry.
use Rattle.std.specs.Prelude.{◌≡◌, ℕ, true, ◌&&◌, ◌||◌, not, List, [], ◌∷◌}
use Rattle.run_plan.specs.declared.plan.Branch.{Branch}
use Rattle.run_plan.specs.declared.plan.Plan.{Plan}
use Rattle.exec_journal.specs.declared.attempt.Attempt.{Attempt}
use Rattle.exec_journal.specs.Entry.{Entry}
use Rattle.exec_journal.specs.Attempts.{attempt, ended}
use Rattle.exec_journal.specs.Facts.{begun}
use Rattle.exec_journal.specs.Words.{granted, grant_of, commit_of}
use Rattle.ready_order.specs.Entries.{is_among}
use Rattle.table_laws.specs.Moments.{Uses}

abbrev pub AllBegun : Plan → List Entry → List Attempt → Type 0
AllBegun p j [] = Unit {0}
AllBegun p j (t ∷ ts) = ((begun j t ≡ true) × Uses p t) × AllBegun p j ts

-- of these attempts exactly those whose actions have no grant end with the entry, and it begins,
-- grants and commits nothing
pub record EndsTogether (j : List Entry) (e : Entry) (ts : List Attempt) : Type 0 where
  pub these : (u : Attempt) → ended (e ∷ j) u ≡ (ended j u
      || (is_among ts u && not (granted j u.action)))
  pub none_begins : (a : ℕ) (b : Branch) → attempt (e ∷ j) a b ≡ attempt j a b
  pub grant : (a : ℕ) → grant_of (e ∷ j) a ≡ grant_of j a
  pub commit : (a : ℕ) (b : Branch) → commit_of (e ∷ j) a b ≡ commit_of j a b
