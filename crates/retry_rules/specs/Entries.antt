-- What the laws ask of a journal and its next entry.
use Rattle.std.specs.Prelude.{◌≡◌, ℕ, ◌≤◌, Bool, true, false, ◌&&◌, not, if◌then◌else◌, List, ◌∷◌, length, filter}
use Rattle.run_plan.specs.declared.plan.Branch.{Branch}
use Rattle.exec_journal.specs.declared.attempt.Attempt.{Attempt}
use Rattle.exec_journal.specs.Entry.{Entry}
use Rattle.exec_journal.specs.Entries.{attempt_of, is_branch_of}
use Rattle.exec_journal.specs.Attempts.{attempt, ended}

-- how often the branch stands among these attempts
abbrev pub times : ℕ → Branch → List Attempt → ℕ
times a b ts = length (filter (is_branch_of a b) ts)

-- the branch's latest attempt ends with this entry
abbrev pub ends_now : List Entry → Entry → ℕ → Branch → Bool
ends_now j e a b =
    ended (e ∷ j) (attempt_of a b (attempt j a b)) && not (ended j (attempt_of a b (attempt j a b)))

-- the entry begins no attempt, and exactly these attempts end with it: of each branch the latest,
-- where that ends. An attempt that ends has begun, so its number isn't 0
pub record EndsThese (j : List Entry) (e : Entry) (ts : List Attempt) : Type 0 where
  pub none_begins : (a : ℕ) (b : Branch) → attempt (e ∷ j) a b ≡ attempt j a b
  pub these : (a : ℕ) (b : Branch) → times a b ts ≡ (if ends_now j e a b then 1 else 0)
  pub begun : (a : ℕ) (b : Branch) → ends_now j e a b ≡ true → 1 ≤ attempt j a b

-- no attempt ends with this entry
abbrev pub EndsNone : List Entry → Entry → Type 0
EndsNone j e = (t : Attempt) → ended (e ∷ j) t ≡ ended j t

-- the branch's latest attempt is under way
pub record IsGoing (j : List Entry) (a : ℕ) (b : Branch) : Type 0 where
  pub begun : 1 ≤ attempt j a b
  pub going : ended j (attempt_of a b (attempt j a b)) ≡ false
