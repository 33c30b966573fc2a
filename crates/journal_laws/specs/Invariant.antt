-- What is so at each moment of a legal journal: of lines, requests, attempts and actions.
use Rattle.std.specs.Prelude.{◌≡◌, ℕ, ◌+◌, ◌≤◌, Bool, true, false, ◌||◌, not, Some, if◌then◌else◌, List, [], ◌∷◌, length, slice_get, pos}
use Rattle.run_plan.specs.declared.plan.Plan.{Plan}
use Rattle.run_plan.specs.declared.plan.PlanAction.{PlanAction}
use Rattle.exec_journal.specs.declared.attempt.Attempt.{Attempt}
use Rattle.exec_journal.specs.Entry.{Entry}
use Rattle.exec_journal.specs.declared.ends.Cause.{Cause}
use Rattle.exec_journal.specs.declared.call.Call.{Call}
use Rattle.exec_journal.specs.declared.call.Call.TheVariants as call
use Rattle.exec_journal.specs.declared.call.HowEnded.{HowEnded}
use Rattle.exec_journal.specs.declared.call.Written.TheVariants as write
use Rattle.exec_journal.specs.History.{ever}
use Rattle.exec_journal.specs.Entries.{Request, attempt_of, same_attempt}
use Rattle.exec_journal.specs.Words.{sends, is_pending, answered, wrote, wrote_at, says_done, says_feed_fault, has_ended}
use Rattle.exec_journal.specs.Attempts.{attempt, line_of, fault_at, ended}
use Rattle.exec_journal.specs.Settled.{ready, bound}
use Rattle.run_plan.specs.Groups.{group_of, is_single}
use Rattle.exec_journal.specs.Seated.{line_kind}
use Rattle.exec_journal.specs.Rules.{gathered}
use Rattle.exec_journal.specs.Facts.{begun}

abbrev pub claims_it : Attempt → Call → Bool
claims_it t (call.Claim a b n f) = same_attempt (attempt_of a b n) t
claims_it t _ = false

-- a Claim of the attempt was made
unfoldable pub claimed : List Entry → Attempt → Bool
claimed j t = ever (λ _ e. claims_it t e.call) j

-- ---- attempts under way

-- it was begun and hasn't ended: so it is its branch's latest
pub record IsGoing (j : List Entry) (t : Attempt) : Type 0 where
  pub begun_yet : begun j t ≡ true
  pub going : ended j t ≡ false
  pub least : 1 ≤ t.number
  pub latest : t.number ≡ attempt j t.action t.branch

-- a Claim comes for an attempt under way, that was gathered and not claimed before
pub record IsClaimable (j : List Entry) (t : Attempt) : Type 0 where
  pub under_way : IsGoing j t
  pub ordered : gathered j t ≡ true
  pub unclaimed : claimed j t ≡ false
  pub consumed : answered j t ≡ true
  pub written : says_done (wrote j t) ≡ true

-- the attempt that was granted is under way for good: it was claimed, and never ends
pub record IsWinner (j : List Entry) (a : ℕ) (t : Attempt) : Type 0 where
  pub under_way : IsGoing j t
  pub of_action : t.action ≡ a
  pub claimed_yet : claimed j t ≡ true

-- what was begun: its action is one of the plan, uses the branch, and has its inputs made
pub record HasInputs (p : Plan) (j : List Entry) (t : Attempt) : Type 0 where
  pub action : PlanAction
  pub place : slice_get p.actions t.action ≡ Some action
  pub group : ℕ
  pub runs : group_of action t.branch ≡ Some group
  pub inputs : ready p j action ≡ true

-- ---- the requests of a line

-- Sends, the newest first: all have the number 0, or their numbers count up from 1
abbrev pub NumberedAs : Bool → List Request → Type 0
NumberedAs single [] = Unit {0}
NumberedAs single (r ∷ rs) =
    (r.number ≡ (if single then pos 0 else pos (length rs + 1))) × NumberedAs single rs

-- all but the newest
abbrev pub older : List Request → List Request
older [] = []
older (r ∷ rs) = rs

-- it holds of each request
abbrev pub EachRequest : (Request → Type 0) → List Request → Type 0
EachRequest P [] = Unit {0}
EachRequest P (r ∷ rs) = P r × EachRequest P rs

-- a line that was launched: its requests have the numbers of its group's
-- kind; while a branch is bound to it, it has none; and in a Single group only its newest request
-- can be pending
pub record LineFacts (p : Plan) (j : List Entry) (l : ℕ) : Type 0 where
  pub numbers : NumberedAs (is_single (line_kind p j l)) (sends j l)
  pub unsent : (t : Attempt) → bound p j l ≡ Some t → sends j l ≡ []
  pub closed : is_single (line_kind p j l) ≡ true
      → EachRequest (λ q. is_pending j q ≡ false) (older (sends j l))

-- ---- which attempts end with an entry

-- a call with which no attempt can end
abbrev pub is_quiet_call : Call → Bool
is_quiet_call (call.Launched l how) = false
is_quiet_call (call.Wrote l n how) = false
is_quiet_call (call.Claim a b t f) = false
is_quiet_call (call.Ended l how) = false
is_quiet_call _ = true

-- of a line that has Ended: the request is unanswered, or its Wrote is FeedFault
abbrev pub is_left : List Entry → Attempt → Bool
is_left j t = not (answered j t) || says_feed_fault (wrote j t)

-- how an attempt ends with the entry: its Launched has a fault, its Wrote says that it wasn't
-- written, its Claim is refused; its line Ends without it, or its Wrote is FeedFault and its line
-- has Ended
pub data EndsWith (j : List Entry) (e : Entry) (t : Attempt) : Type 0 where
  ByFault : (c : Cause) → fault_at t j e ≡ Some c → EndsWith j e t
  ByEnd : (l : ℕ) (how : HowEnded) → e.call ≡ call.Ended l how → line_of j t ≡ Some l
      → is_left j t ≡ true → EndsWith j e t
  ByFeed : (l : ℕ) → wrote_at t j e ≡ Some write.FeedFault → line_of j t ≡ Some l
      → has_ended j l ≡ true → EndsWith j e t
