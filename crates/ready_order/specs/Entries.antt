-- What the laws ask of a journal and its next entry, and the calls that belong to an entry.
use Rattle.std.specs.Prelude.{◌≡◌, ℕ, ◌<◌, ◌≤◌, nat_lt, Bool, true, false, ◌||◌, unwrap_or, option_map, Some, None, if◌then◌else◌, List, [], ◌∷◌, slice_get}
use Rattle.std.specs.List.{list_any}
use Rattle.run_plan.specs.declared.plan.Branch.{Branch}
use Rattle.run_plan.specs.declared.plan.Plan.{Plan}
use Rattle.exec_journal.specs.declared.attempt.Attempt.{Attempt}
use Rattle.exec_journal.specs.Entry.{Entry}
use Rattle.exec_journal.specs.declared.call.CommitEnd.{CommitEnd}
use Rattle.exec_journal.specs.declared.call.CommitEnd.TheVariants as commit
use Rattle.exec_journal.specs.declared.call.Found.TheVariants as found
use Rattle.exec_journal.specs.Entries.{attempt_of, same_attempt}
use Rattle.exec_journal.specs.Words.{grant_of, commit_of}
use Rattle.exec_journal.specs.Attempts.{attempt, begun_in, ended}
use Rattle.exec_journal.specs.Settled.{all_dropped}
use Rattle.exec_journal.specs.Facts.{BeginsNext, SameActions}
use Rattle.ready_order.specs.declared.ActionState.{ActionState}
use Rattle.ready_order.specs.Queue.{with_again, with_settled}

-- the entry begins this attempt, the next of its branch, and beside that ends, grants and commits nothing
pub record BeginsThis (j : List Entry) (e : Entry) (t : Attempt) : Type 0 where
  pub begins : begun_in e.reply ≡ Some t
  pub next : BeginsNext j t
  pub going : ended j t ≡ false
  pub same : SameActions j (e ∷ j)

-- it is among them
abbrev pub is_among : List Attempt → Attempt → Bool
is_among ts t = list_any (same_attempt t) ts

-- the attempt is under way, the latest of its branch
pub record IsUnderWay (p : Plan) (j : List Entry) (t : Attempt) : Type 0 where
  pub begun : 1 ≤ t.number
  pub latest : t.number ≡ attempt j t.action t.branch
  pub limited : t.number ≤ p.limit
  pub going : ended j t ≡ false

-- exactly these attempts end with the entry, which were under way, and it begins, grants and commits nothing.
-- No attempt has ended that wasn't begun
pub record EndsThese (p : Plan) (j : List Entry) (e : Entry) (ts : List Attempt) : Type 0 where
  pub these : (t : Attempt) → ended (e ∷ j) t ≡ (ended j t || is_among ts t)
  pub under_way : (t : Attempt) → is_among ts t ≡ true → IsUnderWay p j t
  pub none_begins : (a : ℕ) (b : Branch) → attempt (e ∷ j) a b ≡ attempt j a b
  pub grant : (a : ℕ) → grant_of (e ∷ j) a ≡ grant_of j a
  pub commit : (a : ℕ) (b : Branch) → commit_of (e ∷ j) a b ≡ commit_of j a b
  pub begun : (t : Attempt) → attempt j t.action t.branch < t.number → ended j t ≡ false

-- before its grant an action has neither a grant nor a Committed
pub record IsOpen (j : List Entry) (a : ℕ) : Type 0 where
  pub ungranted : grant_of j a ≡ None
  pub uncommitted : (b : Branch) → commit_of j a b ≡ None

-- a Committed comes once, from the branch that was granted files
pub record WonFiles (j : List Entry) (a : ℕ) (b : Branch) : Type 0 where
  pub number : ℕ
  pub files : List (List ℕ)
  pub winner : grant_of j a ≡ Some (attempt_of a b number, found.Files files)
  pub uncommitted : commit_of j a b ≡ None

-- the entry begins, ends, grants and commits nothing
pub record SameBranches (j k : List Entry) : Type 0 where
  pub actions : SameActions j k
  pub none_begins : (a : ℕ) (b : Branch) → attempt k a b ≡ attempt j a b

-- ---- the calls that belong to an entry

-- all branches that the action uses are dropped
abbrev pub has_none_left : Plan → List Entry → ℕ → Bool
has_none_left p j a = unwrap_or (option_map (all_dropped p j a) (slice_get p.actions a)) false

-- an attempt has ended, with the newest entry of j: `again` where it was below the limit; else its branch is dropped,
-- and `settle` is called where with it all branches are that the action uses
abbrev pub with_end : Plan → List Entry → List ActionState → Attempt → List ActionState
with_end p j states t =
    if nat_lt t.number p.limit then with_again states t.action t.branch
    else if has_none_left p j t.action then with_settled states t.action false
    else states

-- so for each of these
abbrev pub with_ends : Plan → List Entry → List ActionState → List Attempt → List ActionState
with_ends p j states [] = states
with_ends p j states (t ∷ ts) = with_ends p j (with_end p j states t) ts

abbrev pub is_done : CommitEnd → Bool
is_done commit.Done = true
is_done (commit.PlaceFault n) = false
