-- What each scheduling discipline keeps, whatever it orders next: calls follow their lanes' scripts,
-- each call but an Ask has the one reply that is its own, and each order has its reasons.
use Rattle.std.specs.Prelude.{◌≡◌, ℕ, ◌+◌, ◌/◌, ◌%◌, ◌==◌, nat_lt, Bool, true, false, ◌&&◌, ◌||◌, not, Option, Some, None, if◌then◌else◌, List, [], ◌∷◌, filter, slice_get, ℤ}
use Rattle.run_plan.specs.declared.plan.Branch.{Branch}
use Rattle.run_plan.specs.declared.plan.Kind.TheVariants as kind
use Rattle.run_plan.specs.declared.plan.Plan.{Plan}
use Rattle.run_plan.specs.declared.plan.PlanAction.{PlanAction}
use Rattle.run_plan.specs.Groups.{has_cancellation, is_single}
use Rattle.exec_journal.specs.declared.attempt.Attempt.{Attempt}
use Rattle.exec_journal.specs.declared.ends.Cause.{Cause}
use Rattle.exec_journal.specs.Entry.{Entry}
use Rattle.exec_journal.specs.declared.call.Call.{Call}
use Rattle.exec_journal.specs.declared.call.Call.TheVariants as call
use Rattle.exec_journal.specs.declared.reply.Reply.{Reply}
use Rattle.exec_journal.specs.declared.reply.Reply.TheVariants as reply
use Rattle.exec_journal.specs.declared.reply.Why.TheVariants as why
use Rattle.exec_journal.specs.Entries.{Request, is_kept}
use Rattle.exec_journal.specs.Words.{last_work, stopped, has_halted, line_count, last_line, pending, has_cancel, line_cause, why_of, live}
use Rattle.exec_journal.specs.Attempts.{attempt}
use Rattle.exec_journal.specs.Settled.{bound, uses, queued, free_places}
use Rattle.exec_journal.specs.Seated.{line_group, line_kind, may_be_asked}
use Rattle.exec_journal.specs.Rules.{is_over, runs, leave, kills_broken, is_unwanted, has_unwanted, gathers_next, oldest, number_of, is_vacant, take_reply, answer_reply_of, claim_reply, look_reply}
use Rattle.exec_journal.specs.Scripts.{may_ask, is_owed_commit, allowed}

-- ---- scripts, for a lane of any number and with rooms on every line

abbrev pub may_tick : Bool → Option Entry → Call → Bool
may_tick proxy last call.Tick = proxy && may_ask last
may_tick proxy last _ = false

abbrev pub in_script : Plan → List Entry → ℕ → Call → Bool
in_script p j lane c =
    not (stopped j lane) &&
    (if has_halted j lane then is_owed_commit c (last_work j lane)
    else may_tick (lane % 2 == 0) (last_work j lane) c
    || allowed p kind.Single (lane % 2 == 0) (last_work j lane) c)

-- ---- why a lane is told what it is told, when it asks

-- it is the next attempt of a queued branch, which the group runs
pub record IsNextOf (p : Plan) (j : List Entry) (g : ℕ) (t : Attempt) : Type 0 where
  pub action : PlanAction
  pub place : slice_get p.actions t.action ≡ Some action
  pub group : uses action t.branch g ≡ true
  pub waiting : queued p j t.action t.branch action ≡ true
  pub number : t.number ≡ attempt j t.action t.branch + 1

-- what goes to a line: what is bound to it, or, where it has a free place, what is next of its
-- group
pub data NextOn (p : Plan) (j : List Entry) (l : ℕ) (t : Attempt) : Type 0 where
  FromBound : bound p j l ≡ Some t → NextOn p j l t
  FromQueue : bound p j l ≡ None → nat_lt 0 (free_places p j (line_kind p j l) l) ≡ true
      → IsNextOf p j (line_group p j l) t → NextOn p j l t

-- nothing goes before a Cancel, a Send and a Launch
pub record NoneBefore (p : Plan) (j : List Entry) (w : ℕ) : Type 0 where
  pub goes_on : is_over p j ≡ false
  pub no_kill : kills_broken j (last_line j w) ≡ None
  pub no_gather : gathers_next j w ≡ None

-- the reply to an Ask of the proxy lane of the berth w
pub data Asked (p : Plan) (j : List Entry) (w : ℕ) : Reply → Type 0 where
  Quits : (l : ℕ) → last_line j w ≡ Some l → runs j l ≡ true → is_over p j ≡ true
      → Asked p j w (reply.Kill l why.Quit)
  Stops : is_over p j ≡ true → leave j (last_line j w) ≡ reply.Stop → Asked p j w reply.Stop
  KillsBroken : (l : ℕ) (y : Cause) → last_line j w ≡ Some l → runs j l ≡ true
      → line_cause j l ≡ Some y → is_over p j ≡ false → Asked p j w (reply.Kill l (why_of y))
  KillsUnwanted : (l : ℕ) → last_line j w ≡ Some l → runs j l ≡ true
      → is_single (line_kind p j l) ≡ true → has_cancellation p (line_group p j l) ≡ false
      → has_unwanted p j l ≡ true → is_over p j ≡ false → Asked p j w (reply.Kill l why.Unwanted)
  Gathers : (l : ℕ) (n : ℤ) (a : ℕ) (b : Branch) (t : ℕ) (e : ℤ) (u : Bool)
      → gathers_next j w ≡ Some (reply.Gather l n a b t e u) → is_over p j ≡ false
      → Asked p j w (reply.Gather l n a b t e u)
  Cancels : (l : ℕ) (q : Request) → last_line j w ≡ Some l → live j l ≡ true
      → may_be_asked p j l ≡ true
      → oldest (filter (λ y. is_unwanted p j y && not (has_cancel j y)) (pending j l)) ≡ Some q
      → NoneBefore p j w → Asked p j w (reply.Cancel q.line q.number)
  Sends : (l : ℕ) (t : Attempt) → last_line j w ≡ Some l → live j l ≡ true → NextOn p j l t
      → NoneBefore p j w
      → Asked p j w (reply.Send l (number_of j (line_kind p j l) l) t.action t.branch t.number)
  Evicts : (l : ℕ) → last_line j w ≡ Some l → live j l ≡ true → pending j l ≡ []
      → bound p j l ≡ None → NoneBefore p j w → Asked p j w (reply.Kill l why.Evicted)
  Launches : (g : ℕ) (t : Attempt) → is_vacant j (last_line j w) ≡ true → IsNextOf p j g t
      → NoneBefore p j w
      → Asked p j w (reply.Launch (line_count j) t.action t.branch t.number)
  Idles : Asked p j w reply.Idle

-- a Tick tells nothing, but when all is over
pub data Ticked (p : Plan) (j : List Entry) : Reply → Type 0 where
  Counts : Ticked p j reply.Noted
  Ends : is_over p j ≡ true → Ticked p j reply.Stop
  Waits : Ticked p j reply.Idle

-- the reply to each other call
abbrev pub plain_reply : Plan → List Entry → ℕ → Call → Reply
plain_reply p j lane (call.Look w) = look_reply p j lane w
plain_reply p j lane (call.Claim a b t f) = claim_reply p j a b t f
plain_reply p j lane call.Take = take_reply p j (last_line j (lane / 2))
plain_reply p j lane (call.Answer l x) = answer_reply_of j (line_kind p j l) l x
plain_reply p j lane _ = reply.Noted

abbrev pub Told : Plan → List Entry → ℕ → Call → Reply → Type 0
Told p j lane call.Ask x = Asked p j (lane / 2) x
Told p j lane call.Tick x = Ticked p j x
Told p j lane c x = x ≡ plain_reply p j lane c

pub record LawfulEntry (p : Plan) (j : List Entry) (e : Entry) : Type 0 where
  pub scripted : in_script p j e.lane e.call ≡ true
  pub told : Told p j e.lane e.call e.reply
  pub kept : is_kept e.reply ≡ true

-- so is each entry, after those before it
abbrev pub Lawful : Plan → List Entry → Type 0
Lawful p [] = Unit {0}
Lawful p (e ∷ j) = Lawful p j × LawfulEntry p j e
