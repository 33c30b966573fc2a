-- What a core's tables ask of a lawful journal: of each, of each call that is in a lane's script, and
-- of each entry that joins.
use Rattle.std.specs.Prelude.{◌≡◌, ℕ, ◌+◌, ◌*◌, ◌/◌, ◌<◌, ◌≤◌, ◌==◌, ◌⊎◌, Bool, true, false, ◌&&◌, ◌||◌, not, Option, Some, None, option_map, List, [], ◌∷◌, ◌++◌, map, reverse, length, filter, slice_get, ℤ}
use Rattle.run_plan.specs.declared.plan.Branch.{Branch}
use Rattle.run_plan.specs.declared.plan.Plan.{Plan}
use Rattle.run_plan.specs.declared.plan.PlanAction.{PlanAction}
use Rattle.run_plan.specs.Groups.{group_of, has_cancellation, is_single, capacity}
use Rattle.run_plan.specs.Sound.{Sound}
use Rattle.exec_journal.specs.declared.attempt.Attempt.{Attempt}
use Rattle.exec_journal.specs.Entry.{Entry}
use Rattle.exec_journal.specs.declared.call.Answer.{Answer}
use Rattle.exec_journal.specs.declared.call.Call.{Call}
use Rattle.exec_journal.specs.declared.call.Call.TheVariants as call
use Rattle.exec_journal.specs.declared.call.CommitEnd.{CommitEnd}
use Rattle.exec_journal.specs.declared.call.Found.{Found}
use Rattle.exec_journal.specs.declared.call.HowEnded.{HowEnded}
use Rattle.exec_journal.specs.declared.call.Started.{Started}
use Rattle.exec_journal.specs.declared.call.Written.{Written}
use Rattle.exec_journal.specs.declared.call.Written.TheVariants as write
use Rattle.exec_journal.specs.Attempts.{ended, line_of}
use Rattle.exec_journal.specs.Entries.{Request, attempt_of, same_attempt, same_branch, is_done, is_unwritten, granted_in, refused_in, launch_in, send_in, launch_of_entry, consumed_in, matched_in}
use Rattle.exec_journal.specs.Facts.{begun, call_line}
use Rattle.exec_journal.specs.Lawful.{Lawful, LawfulEntry, in_script, plain_reply}
use Rattle.exec_journal.specs.Rules.{oldest, gathers_next}
use Rattle.exec_journal.specs.Seated.{group_on, line_group, line_kind}
use Rattle.exec_journal.specs.Settled.{bound}
use Rattle.exec_journal.specs.Words.{launch_of, last_line, lines_of, last_work, line_count, order_of, sends, pending, wrote, was_sent, has_ended, has_cancel, answered, granted, grant_of, commit_of, live, failed, started, says_feed_fault}
use Rattle.cancel_rules.specs.Entries.{WantedByGrant}
use Rattle.ready_order.specs.Entries.{IsOpen, WonFiles, is_among}
use Rattle.request_table.specs.Entries.{EachOf, IsKnownBy}
use Rattle.request_table.specs.Stands.{Numbered}
use Rattle.worker_pool.specs.Entries.{WantedStays, CarriesItsBound, IsPendingOn}
use Rattle.call_laws.specs.Matches.{gather_of, recent, waits_yet, is_spent}
use Rattle.call_laws.specs.Moments.{BranchOf}
use Rattle.core_tables.specs.Last.{fed_of}

-- its action is one of the plan, and uses its branch
pub record Uses (p : Plan) (t : Attempt) : Type 0 where
  pub action : PlanAction
  pub place : slice_get p.actions t.action ≡ Some action
  pub group : ℕ
  pub runs : group_of action t.branch ≡ Some group

-- so is each attempt that was begun: a Launch and a Send take the branch from the plan
abbrev pub AreUsed : Plan → List Entry → Type 0
AreUsed p j = (t : Attempt) → begun j t ≡ true → Uses p t

-- each request of the line is of the group of the line's berth: a Send is of its lane's group, and
-- a line has one lane
abbrev pub SentInGroup : Plan → List Entry → ℕ → Type 0
SentInGroup p j l = EachOf (λ r. BranchOf p r.attempt (group_on p j l)) (sends j l)

-- ---- what ends with a line

abbrev pub is_line : Option ℕ → ℕ → Bool
is_line (Some k) l = k == l
is_line None l = false

-- of a line that has Ended: the request is unanswered, or its Wrote is FeedFault
abbrev pub is_left : List Entry → Attempt → Bool
is_left j t = not (answered j t) || says_feed_fault (wrote j t)

-- its line is this, it is left unanswered or after a FeedFault, and its action has no grant
abbrev pub is_left_on : List Entry → ℕ → Attempt → Bool
is_left_on j l t = is_line (line_of j t) l && (is_left j t && not (granted j t.action))

abbrev pub if_there : Option Attempt → List Attempt
if_there (Some t) = t ∷ []
if_there None = []

-- what is pending on the line, whose Wrote is FeedFault on it, and what is bound to it
abbrev pub lost_with : Plan → List Entry → ℕ → List Attempt
lost_with p j l = reverse (map (λ r. r.attempt) (pending j l)) ++
    (if_there (fed_of j l) ++ if_there (bound p j l))

-- of the attempts under way these are the ones that an Ended of the line leaves: what was launched
-- on a line and not sent
-- is bound to it, what was sent is pending, or answered, or its Wrote says that it wasn't written
-- and it has ended,
-- or it is the one request of the line with FeedFault
pub record LostOn (p : Plan) (j : List Entry) (l : ℕ) : Type 0 where
  pub each : (u : Attempt) → ended j u ≡ false → granted j u.action ≡ false
      → (is_line (line_of j u) l && is_left j u) ≡ is_among (lost_with p j l) u

-- ---- what an Answer consumes

-- it is the only request of its attempt, pending on this line and known by the answer's number; and
-- where it is matched it has
-- no Gather yet, its Wrote says no fault, since that would have broken the line or ended it, and
-- its action has no grant
pub record ConsumesOne (p : Plan) (j : List Entry) (lane l : ℕ) (x : Answer) : Type 0 where
  pub on : (t : Attempt) → consumed_in (plain_reply p j lane (call.Answer l x)) ≡ Some t
      → IsPendingOn j t l
  pub known : (t : Attempt) → consumed_in (plain_reply p j lane (call.Answer l x)) ≡ Some t
      → IsKnownBy j l x.number t
  pub waits : (t : Attempt) → matched_in (plain_reply p j lane (call.Answer l x)) ≡ Some t
      → is_spent j t ≡ false

abbrev pub Among : ℕ → List ℕ → Type 0
Among k [] = ⊥
Among k (l ∷ ls) = (k ≡ l) ⊎ Among k ls

abbrev pub Numbering : Plan → List Entry → ℕ → Type 0
Numbering p j l = Numbered (is_single (line_kind p j l)) (sends j l)

pub record JournalFacts (p : Plan) (j : List Entry) : Type 0 where
  -- each attempt has at most one line, and attempts of a branch run from 1 to at most the limit
  pub lines_fit : line_count j ≤ 2 * length p.actions * p.limit
  -- every line of a berth but its last failed, or has ended and was killed
  pub live_last : (w l : ℕ) → last_line j w ≡ Some l → (k : ℕ) → Among k (lines_of j w)
      → live j k ≡ true → k ≡ l
  -- where a lane may Ask, its last Launch was answered by a Launched
  pub launched_yet : (lane l : ℕ) → in_script p j lane call.Ask ≡ true
      → last_line j (lane / 2) ≡ Some l → failed j l ≡ not (started j l)
  -- a pending request's attempt is the latest of its branch and hasn't ended, and its action is
  -- ready: so it is wanted unless its
  -- action has a grant; and a Send names an action of the plan
  pub wanted_by_grant : (l : ℕ) → WantedByGrant p j l
  -- a Single line is told to cancel only where its group has cancellation
  pub no_cancel : (l : ℕ) → is_single (line_kind p j l) ≡ true
      → has_cancellation p (line_group p j l) ≡ false → EachOf
      (λ r. has_cancel j r ≡ false) (pending j l)
  -- what is bound to a line is of the line's group
  pub bound_group : (l : ℕ) (t : Attempt) → bound p j l ≡ Some t → BranchOf p t (group_on p j l)
  -- the requests of a berth's last line were numbered by the line's kind
  pub numbered : (w l : ℕ) → last_line j w ≡ Some l → Numbering p j l
  -- where a lane may Ask, each request of its berth has its Wrote, and a match from before the
  -- berth's last Send waits no longer:
  -- a Send is ordered only where none waits
  pub gathers : (lane : ℕ) → in_script p j lane call.Ask ≡ true
      → gathers_next j (lane / 2) ≡ option_map gather_of
      (oldest (filter (waits_yet j) (recent j (lane / 2))))
  -- no attempt has ended that wasn't begun
  pub unbegun_goes : (t : Attempt) → begun j t ≡ false → ended j t ≡ false
  -- a consumed answer has a Send of its attempt
  pub unsent_unanswered : (t : Attempt) → was_sent j t ≡ false → answered j t ≡ false

-- ---- of each lawful journal

-- a line that something is bound to is the last of a berth
pub record BoundAt (p : Plan) (j : List Entry) (l : ℕ) : Type 0 where
  pub berth : ℕ
  pub here : last_line j berth ≡ Some l

pub record MoreFacts (p : Plan) (j : List Entry) : Type 0 where
  -- a Launch and a Send are of a branch of the plan
  pub used : AreUsed p j
  -- of its lane's group
  pub grouped : (w l : ℕ) → last_line j w ≡ Some l → SentInGroup p j l
  -- a branch is launched once, and what is bound wasn't sent
  pub carries : CarriesItsBound p j
  -- a berth is given a new line only where its last failed, which ended its attempt, or has Ended,
  -- which leaves nothing bound
  pub bound_at : (l : ℕ) (t : Attempt) → bound p j l ≡ Some t → BoundAt p j l
  -- as many requests are sent as attempts begin
  pub sends_fit : (l : ℕ) → length (sends j l) ≤ 2 * length p.actions * p.limit
  -- since a berth's last Send each match was of a request that was pending then
  pub matches_fit : (w l : ℕ) → last_line j w ≡ Some l
      → length (recent j w) + length (pending j l) ≤ 8
  -- a Single line is sent a request only where none is pending
  pub alone : (w l : ℕ) → last_line j w ≡ Some l → is_single (line_kind p j l) ≡ true
      → length (pending j l) ≤ 1

-- ---- of each call that is in its lane's script

-- the request that a Wrote is about is the lane's newest order: it stands there, nothing was
-- written of it, and no earlier request of
-- its line has FeedFault, since that would have broken the line before this Send
pub record WritesOne (j : List Entry) (l : ℕ) (n : ℤ) (q : Request) : Type 0 where
  pub line : q.line ≡ l
  pub place : ℕ
  pub there : slice_get (sends j l) place ≡ Some q
  pub first : wrote j q.attempt ≡ None
  pub known : IsKnownBy j l n q.attempt
  pub unfed : fed_of j l ≡ None

-- a Claim is of an attempt that was sent; the branch that was granted doesn't claim again
pub record ClaimsOne (j : List Entry) (a : ℕ) (b : Branch) (n : ℕ) : Type 0 where
  pub sent : was_sent j (attempt_of a b n) ≡ true
  pub start : begun j (attempt_of a b n) ≡ true
  pub apart : (x : Attempt × Found) → grant_of j a ≡ Some x → same_branch x.0.branch b ≡ false

pub record CallFacts (p : Plan) (j : List Entry) (lane : ℕ) (c : Call) : Type 0 where
  -- a lane speaks of its berth's last line alone
  pub names : (l : ℕ) → call_line c ≡ Some l → last_line j (lane / 2) ≡ Some l
  -- a Launched answers the lane's newest work, its line's Launch
  pub launches : (l m : ℕ) (how : Started) (t : Attempt) → c ≡ call.Launched l how
      → launch_of j l ≡ Some (m, t) → launch_of_entry (last_work j lane) ≡ Some t
  pub writes : (l : ℕ) (n : ℤ) (how : Written) (q : Request) → c ≡ call.Wrote l n how
      → order_of j lane ≡ Some q → WritesOne j l n q
  pub claims : (a n : ℕ) (b : Branch) (f : Found) → c ≡ call.Claim a b n f → ClaimsOne j a b n
  pub commits : (a : ℕ) (b : Branch) (how : CommitEnd) → c ≡ call.Committed a b how → WonFiles j a b
  pub commits_within : (a : ℕ) (b : Branch) (how : CommitEnd) → c ≡ call.Committed a b how
      → a < length p.actions
  pub consumes : (l : ℕ) (x : Answer) → c ≡ call.Answer l x → ConsumesOne p j lane l x
  pub lost : (l : ℕ) (how : HowEnded) → c ≡ call.Ended l how → LostOn p j l

-- ---- of each entry that joins

abbrev pub EndExactly : List Entry → Entry → (Attempt → Bool) → Type 0
EndExactly j e test = (u : Attempt) → ended (e ∷ j) u ≡ (ended j u || test u)

-- it is this one, and its action has no grant
abbrev pub is_open_attempt : List Entry → Attempt → Attempt → Bool
is_open_attempt j t u = same_attempt t u && not (granted j t.action)

-- a place for one more request, and attempts left for it
pub record SendRoom (p : Plan) (j : List Entry) (l : ℕ) : Type 0 where
  pub place : length (pending j l) < capacity (line_kind p j l)
  pub left : length (sends j l) < 2 * length p.actions * p.limit

pub record EntryFacts (p : Plan) (j : List Entry) (e : Entry) : Type 0 where
  -- what is settled stays settled, and a branch under way is wanted until its action has a grant
  pub stays : WantedStays p j e
  -- an action is granted once, and committed only after it
  pub grants : (x : Attempt × Found) → granted_in e.call e.reply ≡ Some x → IsOpen j x.0.action
  -- there is room for what it orders
  pub launch_room : (x : ℕ × Attempt) → launch_in e.reply ≡ Some x
      → line_count j < 2 * length p.actions * p.limit
  pub send_room : (q : Request) → send_in e.reply ≡ Some q → SendRoom p j q.line
  -- exactly which attempts end with it
  pub launched : (l m : ℕ) (how : Started) (t : Attempt) → e.call ≡ call.Launched l how
      → is_done how ≡ false → launch_of j l ≡ Some (m, t) → EndExactly j e (is_open_attempt j t)
  pub unwritten : (l : ℕ) (n : ℤ) (how : Written) (q : Request) → e.call ≡ call.Wrote l n how
      → is_unwritten how ≡ true → order_of j e.lane ≡ Some q
      → EndExactly j e (is_open_attempt j q.attempt)
  pub fed : (l : ℕ) (n : ℤ) (q : Request) → e.call ≡ call.Wrote l n write.FeedFault
      → order_of j e.lane ≡ Some q → EndExactly j e (λ u. same_attempt q.attempt u
      && (has_ended j q.line && not (granted j q.attempt.action)))
  pub refused : (x : Attempt × Found) → refused_in e.call e.reply ≡ Some x
      → EndExactly j e (λ u. same_attempt x.0 u)
  pub finished : (l : ℕ) (how : HowEnded) → e.call ≡ call.Ended l how
      → EndExactly j e (is_left_on j l)

-- every lawful journal of a sound plan has them, with each call that is in its lane's script, and
-- each entry that joins
pub record LawfulMore (p : Plan) (j : List Entry) : Type 0 where
  pub facts : JournalFacts p j
  pub more : MoreFacts p j
  pub calls : (lane : ℕ) (c : Call) → in_script p j lane c ≡ true → CallFacts p j lane c
  pub entries : (e : Entry) → LawfulEntry p j e → EntryFacts p j e

abbrev pub AllLawful : Type 0
AllLawful = (p : Plan) (j : List Entry) → Sound p → Lawful p j → LawfulMore p j
