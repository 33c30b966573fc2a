-- How an action and its branches end, by a journal.
use Rattle.std.specs.Prelude.{ℕ, min, Bool, true, false, Option, Some, None, unwrap_or, option_map, if◌then◌else◌, List, [], ◌∷◌, slice_get}
use Rattle.run_plan.specs.declared.plan.Branch.{Branch}
use Rattle.run_plan.specs.declared.plan.Maker.{Maker}
use Rattle.run_plan.specs.declared.plan.Plan.{Plan}
use Rattle.run_plan.specs.declared.plan.PlanAction.{PlanAction}
use Rattle.exec_journal.specs.declared.attempt.Attempt.{Attempt}
use Rattle.exec_journal.specs.Entry.{Entry}
use Rattle.exec_journal.specs.declared.call.Answer.{Answer}
use Rattle.exec_journal.specs.declared.call.CommitEnd.{CommitEnd}
use Rattle.exec_journal.specs.declared.call.CommitEnd.TheVariants as commit
use Rattle.exec_journal.specs.declared.call.Found.{Found}
use Rattle.exec_journal.specs.declared.call.Found.TheVariants as found
use Rattle.exec_journal.specs.declared.ends.Cause.{Cause}
use Rattle.exec_journal.specs.declared.ends.Fate.{Fate}
use Rattle.exec_journal.specs.declared.ends.Fate.TheVariants as fate
use Rattle.exec_journal.specs.declared.ends.Outcome.{Outcome}
use Rattle.exec_journal.specs.declared.ends.Outcome.TheVariants as outcome
use Rattle.exec_journal.specs.declared.ends.Standing.{Standing}
use Rattle.exec_journal.specs.Entries.{attempt_of, same_branch}
use Rattle.exec_journal.specs.Words.{grant_of, commit_of, ever_sent, match_of}
use Rattle.exec_journal.specs.Attempts.{end_of}
use Rattle.exec_journal.specs.Settled.{all_dropped, is_starved, is_success, standings}
use Rattle.run_plan.specs.Groups.{group_of}

-- ---- outcome

abbrev pub commit_outcome : Branch → Option CommitEnd → Option Outcome
commit_outcome b (Some commit.Done) = Some (outcome.Success b)
commit_outcome b (Some (commit.PlaceFault k)) = Some (outcome.Spoiled b k)
commit_outcome b None = None

-- of a grant: to an exit code the action failed; to files it is what the branch's Committed says
abbrev pub grant_outcome : List Entry → Option (Attempt × Found) → Option Outcome
grant_outcome j (Some (t, found.Exit n)) = Some (outcome.Failed t.branch n)
grant_outcome j (Some (t, found.Files fs)) = commit_outcome t.branch (commit_of j t.action t.branch)
grant_outcome j _ = None

-- the lesser of the two, where both are there
abbrev pub lesser : Option ℕ → Option ℕ → Option ℕ
lesser None o = o
lesser (Some a) None = Some a
lesser (Some a) (Some b) = Some (min a b)

-- the least action of these producers that has no success
abbrev pub least_without : List Standing → List Maker → Option ℕ
least_without standings [] = None
least_without standings (m ∷ ms) =
    if is_success (slice_get standings m.action) then least_without standings ms
    else lesser (Some m.action) (least_without standings ms)

abbrev pub skipped : List Standing → PlanAction → Outcome
skipped standings x = unwrap_or
    (option_map (λ m. outcome.Skipped m) (least_without standings x.makers)) outcome.Unsettled

abbrev pub outcome_after : Plan → List Entry → ℕ → PlanAction → List Standing → Outcome
outcome_after p j a x standings =
    unwrap_or (grant_outcome j (grant_of j a))
    (if all_dropped p j a x then outcome.Dropped
    else if is_starved x standings then skipped standings x else outcome.Unsettled)

unfoldable pub outcome_of : Plan → List Entry → ℕ → Outcome
outcome_of p j a = unwrap_or
    (option_map (λ x. outcome_after p j a x (standings p j))
    (slice_get p.actions a)) outcome.Unsettled

abbrev pub is_ok : Outcome → Bool
is_ok (outcome.Success b) = true
is_ok _ = false

abbrev pub is_some_ok : Option Outcome → Bool
is_some_ok (Some o) = is_ok o
is_some_ok None = false

-- ---- fate

-- the branch was granted
abbrev pub is_winner : Branch → Option (Attempt × Found) → Bool
is_winner b (Some x) = same_branch x.0.branch b
is_winner b None = false

abbrev pub won_or_spoiled : Option CommitEnd → Fate
won_or_spoiled (Some (commit.PlaceFault k)) = fate.Spoiled k
won_or_spoiled _ = fate.Won

-- with the cause of its last attempt, of as many attempts as the limit says; else it was sent or
-- not
abbrev pub lost_fate : ℕ → Option Cause → Bool → Fate
lost_fate limit (Some c) sent = fate.Dropped c limit
lost_fate limit None true = fate.Lost
lost_fate limit None false = fate.Idle

-- the first that fits
abbrev pub fate_after : Plan → List Entry → ℕ → Branch → Option ℕ → Fate
fate_after p j a b None = fate.Unused
fate_after p j a b (Some g) =
    if is_winner b (grant_of j a) then won_or_spoiled (commit_of j a b)
    else lost_fate p.limit (end_of j (attempt_of a b p.limit)) (ever_sent j a b)

unfoldable pub fate_of : Plan → List Entry → ℕ → Branch → Fate
fate_of p j a b = unwrap_or
    (option_map (λ x. fate_after p j a b (group_of x b)) (slice_get p.actions a)) fate.Unused

-- ---- the winner's answer

-- the answer that was matched with the attempt that was granted
abbrev pub winning_answer : List Entry → Option (Attempt × Found) → Option Answer
winning_answer j (Some x) = match_of j x.0
winning_answer j None = None
