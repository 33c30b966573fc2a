-- What is so of a legal journal where an entry comes, in the forms that the core asks for.
use Rattle.std.specs.Prelude.{◌≡◌, ℕ, ◌*◌, ◌<◌, ◌≤◌, Bool, true, false, ◌&&◌, ◌||◌, not, Option, Some, None, is_some, option_map, option_and_then, List, [], ◌∷◌, ◌++◌, length, filter, map, slice_get}
use Rattle.std.specs.List.{find, list_any}
use Rattle.run_plan.specs.declared.plan.Branch.{Branch}
use Rattle.run_plan.specs.declared.plan.Plan.{Plan}
use Rattle.run_plan.specs.declared.plan.PlanAction.{PlanAction}
use Rattle.exec_journal.specs.declared.attempt.Attempt.{Attempt}
use Rattle.exec_journal.specs.Entry.{Entry}
use Rattle.exec_journal.specs.declared.call.Written.{Written}
use Rattle.exec_journal.specs.declared.call.Written.TheVariants as write
use Rattle.list_lemmas.specs.Options.{and_more}
use Rattle.exec_journal.specs.Entries.{same_attempt, is_for, launch_in, send_in, gather_in, orders_kill}
use Rattle.exec_journal.specs.Words.{last_work, line_count, last_line, sends, pending, was_sent, answered, wrote, says_feed_fault, granted, grant_of, commit_of}
use Rattle.exec_journal.specs.Rules.{gathered}
use Rattle.exec_journal.specs.Scripts.{hears_after, is_commit_of}
use Rattle.journal_laws.specs.Steps.{is_line}
use Rattle.exec_journal.specs.Attempts.{attempt, ended}
use Rattle.exec_journal.specs.Settled.{bound}
use Rattle.exec_journal.specs.Facts.{IsOfBerth, BeginsNext}
use Rattle.run_plan.specs.Groups.{capacity, group_of}
use Rattle.exec_journal.specs.Seated.{group_for, group_on, line_kind}

-- the attempt was begun: its number is one of its branch's, and its action uses its branch
pub record IsBegun (p : Plan) (j : List Entry) (t : Attempt) : Type 0 where
  pub latest : ended j t ≡ false → t.number ≡ attempt j t.action t.branch
  pub least : 1 ≤ t.number
  pub most : t.number ≤ p.limit
  pub action : PlanAction
  pub place : slice_get p.actions t.action ≡ Some action
  pub used : is_some (group_of action t.branch) ≡ true

-- an entry with which this attempt ends, unless it has ended or its action has a grant, and nothing
-- else does
pub record EndsJust (p : Plan) (j : List Entry) (e : Entry) (t : Attempt) : Type 0 where
  pub this : (u : Attempt)
      → ended (e ∷ j) u ≡ (ended j u || (same_attempt u t && not (granted j t.action)))
  pub none_begins : (a : ℕ) (b : Branch) → attempt (e ∷ j) a b ≡ attempt j a b
  pub grant : (a : ℕ) → grant_of (e ∷ j) a ≡ grant_of j a
  pub commit : (a : ℕ) (b : Branch) → commit_of (e ∷ j) a b ≡ commit_of j a b
  pub begun : IsBegun p j t

-- ---- what stands on a line

-- the request of the line whose Wrote is FeedFault
abbrev pub fed_on : List Entry → ℕ → Option Attempt
fed_on j l =
    option_map (λ x. x.attempt) (find (λ x. says_feed_fault (wrote j x.attempt)) (sends j l))

-- it is pending on the line, its feed failed there, or it is bound to it
abbrev pub stands_on : Plan → List Entry → ℕ → Attempt → Bool
stands_on p j l t =
    list_any (λ x. same_attempt x.attempt t) (pending j l)
    || (is_for t (fed_on j l) || is_for t (bound p j l))

-- it hasn't ended, and its action has no grant
abbrev pub is_open_yet : List Entry → Attempt → Bool
is_open_yet j t = not (ended j t) && not (granted j t.action)

-- those that stand on the line: the one that was answered and whose feed failed, the one that is
-- bound, and what is pending
abbrev pub standing_on : Plan → List Entry → ℕ → List Attempt
standing_on p j l =
    filter (answered j) (and_more (fed_on j l) [])
    ++ and_more (bound p j l) (map (λ x. x.attempt) (pending j l))

-- those of them that end with the line
abbrev pub lost_with : Plan → List Entry → ℕ → List Attempt
lost_with p j l = filter (is_open_yet j) (standing_on p j l)

-- none stands there twice
abbrev pub AreApart : List Attempt → Type 0
AreApart [] = Unit {0}
AreApart (t ∷ ts) = (list_any (same_attempt t) ts ≡ false) × AreApart ts

-- ---- requests

abbrev pub is_clean : Option Written → Bool
is_clean None = true
is_clean (Some write.Done) = true
is_clean (Some _) = false

-- its Wrote is missing or Done, and no Gather of it was ordered
pub record IsClean (j : List Entry) (t : Attempt) : Type 0 where
  pub write : is_clean (wrote j t) ≡ true
  pub ungathered : gathered j t ≡ false

-- ---- orders

-- the line is the last of its berth
pub record IsSeated (p : Plan) (j : List Entry) (l : ℕ) : Type 0 where
  pub berth : ℕ
  pub own : IsOfBerth j l berth
  pub last : last_line j berth ≡ Some l

-- the branch of the attempt is run by this group
abbrev pub BranchOf : Plan → Attempt → Option ℕ → Type 0
BranchOf p t g = group_for p t ≡ g

-- a Send of the attempt to the line: what is bound there is the latest of its
-- branch, and what isn't begins next; and there is room for it
pub record IsSendOf (p : Plan) (j : List Entry) (l : ℕ) (t : Attempt) : Type 0 where
  pub unsent : was_sent j t ≡ false
  pub group : BranchOf p t (group_on p j l)
  pub latest : bound p j l ≡ Some t → t.number ≡ attempt j t.action t.branch
  pub fresh : bound p j l ≡ None → BeginsNext j t
  pub place : length (pending j l) < capacity (line_kind p j l)
  pub room : length (sends j l) < 2 * length p.actions * p.limit
  pub line : l < 2 * length p.actions * p.limit
  pub within : t.action < length p.actions

-- a Launch for the attempt
pub record IsLaunchOf (p : Plan) (j : List Entry) (t : Attempt) : Type 0 where
  pub room : line_count j < 2 * length p.actions * p.limit
  pub within : t.action < length p.actions

-- ---- what is owed

-- it is its lane's newest work, and asks for this
pub record IsOwed (j : List Entry) (asks_it : Entry → Bool) : Type 0 where
  pub lane : ℕ
  pub order : Entry
  pub newest : last_work j lane ≡ Some order
  pub asks : asks_it order ≡ true

-- a lane still reads the line: its newest work is the reply that gave it, or an Answer of it
pub record IsRead (j : List Entry) (l : ℕ) : Type 0 where
  pub lane : ℕ
  pub work : Entry
  pub newest : last_work j lane ≡ Some work
  pub hears : hears_after l work.call work.reply ≡ true

-- what an entry orders
abbrev pub launches_line : ℕ → Entry → Bool
launches_line l e = is_line (option_map (λ x. x.0) (launch_in e.reply)) l

abbrev pub sends_attempt : Attempt → Entry → Bool
sends_attempt t e = is_for t (option_map (λ r. r.attempt) (send_in e.reply))

abbrev pub gathers_attempt : Attempt → Entry → Bool
gathers_attempt t e = is_for t (gather_in e.reply)

abbrev pub kills_line : ℕ → Entry → Bool
kills_line l e = orders_kill l e.reply

-- it was granted the files of this branch
abbrev pub wins_files_of : ℕ → Branch → Entry → Bool
wins_files_of a b e = is_commit_of a b e.call e.reply
