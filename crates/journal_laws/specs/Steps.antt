-- What is so of a legal journal where an entry comes: what the tables and the core ask of each kind
-- of entry.
use Rattle.std.specs.Prelude.{◌≡◌, ℕ, ◌*◌, ◌/◌, ◌<◌, ◌==◌, Bool, true, false, ◌&&◌, ◌||◌, not, Option, Some, None, option_and_then, List, ◌∷◌, length, slice_get, ℤ, pos, int_le}
use Rattle.std.specs.Ordering.{int_eq}
use Rattle.run_plan.specs.declared.plan.Branch.{Branch}
use Rattle.run_plan.specs.declared.plan.Plan.{Plan}
use Rattle.exec_journal.specs.declared.attempt.Attempt.{Attempt}
use Rattle.exec_journal.specs.Entry.{Entry}
use Rattle.exec_journal.specs.declared.call.Answer.{Answer}
use Rattle.exec_journal.specs.declared.call.Found.TheVariants as found
use Rattle.exec_journal.specs.declared.ends.Outcome.{Outcome}
use Rattle.exec_journal.specs.declared.ends.Outcome.TheVariants as outcome
use Rattle.exec_journal.specs.declared.reply.Reply.{Reply}
use Rattle.exec_journal.specs.declared.reply.Reply.TheVariants as reply
use Rattle.exec_journal.specs.declared.reply.Why.TheVariants as why
use Rattle.exec_journal.specs.History.{ever}
use Rattle.exec_journal.specs.Entries.{Request, attempt_of, same_attempt}
use Rattle.exec_journal.specs.Words.{line_count, last_line, launch_of, line_cause, broke, live, kill_ordered, has_spoken, has_greeted, sends, has_ended, was_sent, answered, match_of, wrote, is_pending, pending, has_cancel, granted, grant_of, commit_of}
use Rattle.exec_journal.specs.Attempts.{attempt, begun_in, line_of, ended}
use Rattle.exec_journal.specs.Settled.{settled, wanted, bound}
use Rattle.run_plan.specs.Groups.{is_single, is_remote, capacity}
use Rattle.exec_journal.specs.Seated.{group_for, group_on, line_kind}
use Rattle.exec_journal.specs.Rules.{is_unwanted, number_of, runs}
use Rattle.exec_journal.specs.Paired.{is_new_number}
use Rattle.exec_journal.specs.Facts.{begun, IsOfBerth, BeginsNext, SameActions}
use Rattle.journal_laws.specs.Invariant.{IsGoing, NumberedAs, EachRequest, is_left}

-- an entry that begins the next attempt of a branch ends, grants and commits nothing
pub record BeginsOne (j : List Entry) (e : Entry) (t : Attempt) : Type 0 where
  pub begins : begun_in e.reply ≡ Some t
  pub next : BeginsNext j t
  pub going : ended j t ≡ false
  pub same : SameActions j (e ∷ j)

-- a grant comes where the action has neither a grant nor a Committed
pub record IsUngranted (j : List Entry) (a : ℕ) : Type 0 where
  pub ungranted : grant_of j a ≡ None
  pub uncommitted : (b : Branch) → commit_of j a b ≡ None

-- a Committed comes once, from the branch that was granted files
pub record IsGrantedFiles (j : List Entry) (a : ℕ) (b : Branch) : Type 0 where
  pub number : ℕ
  pub files : List (List ℕ)
  pub winner : grant_of j a ≡ Some (attempt_of a b number, found.Files files)
  pub uncommitted : commit_of j a b ≡ None

-- a branch that isn't wanted isn't wanted again, and one that is bound stays wanted until its
-- action is granted or its attempt ends
pub record WantedFollows (p : Plan) (j : List Entry) (e : Entry) : Type 0 where
  pub unwanted : (a : ℕ) (b : Branch) → wanted p j a b ≡ false → wanted p (e ∷ j) a b ≡ false
  pub bound_yet : (l : ℕ) (t : Attempt) → bound p j l ≡ Some t → granted (e ∷ j) t.action ≡ false
      → ended (e ∷ j) t ≡ false → wanted p (e ∷ j) t.action t.branch ≡ true

-- each line carries what is bound to it, which isn't answered
pub record BoundIsCarried (p : Plan) (j : List Entry) : Type 0 where
  pub carrier : (l : ℕ) (t : Attempt) → bound p j l ≡ Some t → line_of j t ≡ Some l
  pub unanswered : (l : ℕ) (t : Attempt) → bound p j l ≡ Some t → answered j t ≡ false

-- a Send: of a branch of the lane's group, to a line that hasn't Ended; nothing was said yet of the
-- request, and where its attempt was launched, it was on this line
pub record IsFreshSend (p : Plan) (j : List Entry) (t : Attempt) (l : ℕ) : Type 0 where
  pub group : group_for p t ≡ group_on p j l
  pub unended : has_ended j l ≡ false
  pub unsent : was_sent j t ≡ false
  pub unanswered : answered j t ≡ false
  pub unwritten : wrote j t ≡ None
  pub carrier : (m : ℕ) → line_of j t ≡ Some m → m ≡ l
  pub launched : (n m : ℕ) → launch_of j m ≡ Some (n, t) → m ≡ l

-- of all pending requests exactly those of this attempt stand on this line with this number
pub record KnownByNumber (j : List Entry) (l : ℕ) (n : ℤ) (s : Attempt) : Type 0 where
  pub here : EachRequest (λ r. same_attempt s r.attempt ≡ int_eq r.number n) (pending j l)
  pub elsewhere : (k : ℕ) → (l == k) ≡ false
      → EachRequest (λ r. same_attempt s r.attempt ≡ false) (pending j k)

-- no pending request is of this attempt
abbrev pub IsPastAttempt : List Entry → Attempt → Type 0
IsPastAttempt j s = (k : ℕ) → EachRequest (λ r. same_attempt s r.attempt ≡ false) (pending j k)

-- each pending request of the line is of an action of the plan, and isn't wanted exactly where that
-- action has a grant
pub record WantedUnlessGranted (p : Plan) (j : List Entry) (l : ℕ) : Type 0 where
  pub within : EachRequest (λ r. r.attempt.action < length p.actions) (pending j l)
  pub grants : EachRequest (λ r. is_unwanted p j r ≡ granted j r.attempt.action) (pending j l)

-- a Launch: of an attempt that nothing was said of, of a wanted branch, by a berth of the plan;
-- there is room for one more line
pub record IsFreshLaunch (p : Plan) (j : List Entry) (l : ℕ) (t : Attempt) : Type 0 where
  pub numbered : l ≡ line_count j
  pub unbegun : begun j t ≡ false
  pub going : ended j t ≡ false
  pub wish : wanted p j t.action t.branch ≡ true
  pub room : line_count j < 2 * length p.actions * p.limit

-- a Send: with the next number, to a line with a place for it and room for one more request; which
-- was launched by the lane's berth
pub record IsNumberedSend (p : Plan) (j : List Entry) (lane : ℕ) (q : Request) : Type 0 where
  pub number : q.number ≡ number_of j (line_kind p j q.line) q.line
  pub earlier : NumberedAs (is_single (line_kind p j q.line)) (sends j q.line)
  pub place : length (pending j q.line) < capacity (line_kind p j q.line)
  pub room : length (sends j q.line) < 2 * length p.actions * p.limit
  pub line : q.line < 2 * length p.actions * p.limit
  pub owner : (n : ℕ) × (t : Attempt) × (launch_of j q.line ≡ Some (n, t)) × (n / 2 ≡ lane / 2)

-- the request that a Wrote or an Answer is about stands there among the line's
pub record StandsThere (j : List Entry) (l : ℕ) (q : Request) : Type 0 where
  pub place : ℕ
  pub is : slice_get (sends j l) place ≡ Some q

-- exactly these attempts end with the entry
abbrev pub EndExactly : List Entry → Entry → (Attempt → Bool) → Type 0
EndExactly j e test = (t : Attempt) → ended (e ∷ j) t ≡ (ended j t || test t)

abbrev pub is_line : Option ℕ → ℕ → Bool
is_line (Some k) l = k == l
is_line None l = false

-- it is this one, and its action has no grant
abbrev pub is_open_attempt : List Entry → Attempt → Attempt → Bool
is_open_attempt j s t = same_attempt s t && not (granted j s.action)

-- its line is this, it is left unanswered or after a FeedFault, and its action has no grant
abbrev pub is_left_on : List Entry → ℕ → Attempt → Bool
is_left_on j l t = is_line (line_of j t) l && (is_left j t && not (granted j t.action))

-- ---- what is gathered, and what is known at the end

-- what is to be gathered is under way: its action isn't settled, and its branch is wanted
pub record IsGathering (p : Plan) (j : List Entry) (t : Attempt) : Type 0 where
  pub under_way : IsGoing j t
  pub unsettled : settled p j t.action ≡ false
  pub wish : wanted p j t.action t.branch ≡ true

-- the action has an outcome
abbrev pub is_known : Outcome → Bool
is_known outcome.Unsettled = false
is_known _ = true

-- ---- a line's Kill and its end

-- a Kill is ordered once, of the berth's last line, which runs
pub record KillsOnce (j : List Entry) (e : Entry) (l : ℕ) : Type 0 where
  pub here : last_line j (e.lane / 2) ≡ Some l
  pub running : runs j l ≡ true
  pub first : kill_ordered j l ≡ false

-- a pending request of an action without a grant
abbrev pub is_needed : List Entry → Request → Bool
is_needed j y = is_pending j y && not (granted j y.attempt.action)

-- a line of this berth to which nothing is bound, and which has no such request
pub record IsDone (p : Plan) (j : List Entry) (l : ℕ) : Type 0 where
  pub berth : ℕ
  pub own : IsOfBerth j l berth
  pub unbound : bound p j l ≡ None
  pub unneeded : EachRequest (λ y. is_needed j y ≡ false) (sends j l)

abbrev pub gives_up : ℕ → Reply → Bool
gives_up l (reply.Kill k why.Unwanted) = k == l
gives_up l (reply.Kill k why.Quit) = k == l
gives_up l (reply.Kill k why.Evicted) = k == l
gives_up l _ = false

-- the line was to be killed for Unwanted, Quit or Evicted
unfoldable pub given_up : List Entry → ℕ → Bool
given_up j l = ever (λ _ e. gives_up l e.reply) j

-- ---- a greeting

-- an executor's first answer, with the number 0, which no request of the line has, and the
-- version 2 or more
pub record IsGreeting (p : Plan) (j : List Entry) (l : ℕ) (x : Answer) : Type 0 where
  pub of_executor : is_remote (line_kind p j l) ≡ true
  pub number : x.number ≡ pos 0
  pub version : int_le (pos 2) x.version ≡ true
  pub whole : broke j l ≡ false
  pub first : has_spoken j l ≡ false
  pub ungreeted : has_greeted j l ≡ false
  pub nobody : is_new_number j l (pos 0) ≡ true

-- the two journals say the same of lines, requests, attempts and actions
pub record SameRequests (p : Plan) (j k : List Entry) : Type 0 where
  pub actions : SameActions j k
  pub none_begins : (a : ℕ) (b : Branch) → attempt k a b ≡ attempt j a b
  pub count : line_count k ≡ line_count j
  pub launch : (l : ℕ) → launch_of k l ≡ launch_of j l
  pub cause : (l : ℕ) → line_cause k l ≡ line_cause j l
  pub lives : (l : ℕ) → live k l ≡ live j l
  pub bound_too : (l : ℕ) → bound p k l ≡ bound p j l
  pub sends_too : (l : ℕ) → sends k l ≡ sends j l
  pub pending_too : (l : ℕ) → pending k l ≡ pending j l
  pub answered_too : (t : Attempt) → answered k t ≡ answered j t
  pub matched_too : (t : Attempt) → match_of k t ≡ match_of j t
  pub wrote_too : (t : Attempt) → wrote k t ≡ wrote j t
  pub cancels_too : (q : Request) → has_cancel k q ≡ has_cancel j q
