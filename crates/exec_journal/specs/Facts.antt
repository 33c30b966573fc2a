-- What holds of every legal journal: facts on which the tables and the core stand.
use Rattle.std.specs.Prelude.{◌≡◌, ℕ, ◌+◌, ◌/◌, ◌<◌, ◌≤◌, ◌⊎◌, Bool, true, false, Option, Some, None, List, [], ◌∷◌}
use Rattle.run_plan.specs.declared.plan.Branch.{Branch}
use Rattle.run_plan.specs.declared.plan.Plan.{Plan}
use Rattle.run_plan.specs.declared.plan.PlanAction.{PlanAction}
use Rattle.exec_journal.specs.declared.attempt.Attempt.{Attempt}
use Rattle.exec_journal.specs.Entry.{Entry}
use Rattle.exec_journal.specs.declared.call.Call.{Call}
use Rattle.exec_journal.specs.declared.call.Call.TheVariants as call
use Rattle.exec_journal.specs.declared.reply.Reply.{Reply}
use Rattle.exec_journal.specs.declared.reply.Reply.TheVariants as reply
use Rattle.exec_journal.specs.History.{AtEach, ever}
use Rattle.exec_journal.specs.Entries.{Request, attempt_of, is_for, launch_in, send_in}
use Rattle.exec_journal.specs.Words.{line_count, launch_of, started, failed, has_ended, was_killed, was_taken, has_spoken, has_greeted, line_cause, sends, was_sent, grant_of, commit_of}
use Rattle.exec_journal.specs.Attempts.{attempt, begun_in, ended}
use Rattle.exec_journal.specs.Settled.{standings, ready, wanted}

-- ---- lines

-- the line that a call names
abbrev pub call_line : Call → Option ℕ
call_line (call.Launched l how) = Some l
call_line (call.Wrote l n how) = Some l
call_line (call.Killed l) = Some l
call_line (call.Answer l x) = Some l
call_line (call.Ended l how) = Some l
call_line _ = None

-- the line that a reply names
abbrev pub reply_line : Reply → Option ℕ
reply_line (reply.Launch l a b t) = Some l
reply_line (reply.Send l n a b t) = Some l
reply_line (reply.Cancel l n) = Some l
reply_line (reply.Gather l n a b t x r) = Some l
reply_line (reply.Kill l y) = Some l
reply_line (reply.Line l) = Some l
reply_line _ = None

-- the line was launched, by the proxy lane of the berth w
pub record IsOfBerth (j : List Entry) (l w : ℕ) : Type 0 where
  pub below : l < line_count j
  pub owner : (lane : ℕ) × (t : Attempt) × (launch_of j l ≡ Some (lane, t)) × (lane / 2 ≡ w)

abbrev pub OfBerth : List Entry → Option ℕ → ℕ → Type 0
OfBerth j (Some l) w = IsOfBerth j l w
OfBerth j None w = Unit {0}

-- a Launch has the next line's number
abbrev pub IsNext : List Entry → Option (ℕ × Attempt) → Type 0
IsNext j (Some x) = x.0 ≡ line_count j
IsNext j None = Unit {0}

-- lines are numbered in order; and each line that an entry names was launched, at that entry or
-- before, by its own berth's lane
pub record NamesItsLine (j : List Entry) (e : Entry) : Type 0 where
  pub called : OfBerth j (call_line e.call) (e.lane / 2)
  pub replied : OfBerth (e ∷ j) (reply_line e.reply) (e.lane / 2)
  pub numbered : IsNext j (launch_in e.reply)

abbrev pub NameTheirLines : List Entry → Type 0
NameTheirLines j = AtEach NamesItsLine j

-- nothing is said of a line that wasn't launched yet
pub record IsFresh (j : List Entry) (l : ℕ) : Type 0 where
  pub launch : launch_of j l ≡ None
  pub start : started j l ≡ false
  pub fail : failed j l ≡ false
  pub break : line_cause j l ≡ None
  pub end : has_ended j l ≡ false
  pub kill : was_killed j l ≡ false
  pub take : was_taken j l ≡ false
  pub speak : has_spoken j l ≡ false
  pub greet : has_greeted j l ≡ false
  pub send : sends j l ≡ []

-- ---- attempts

-- the attempt was launched or sent
unfoldable pub begun : List Entry → Attempt → Bool
begun j t = ever (λ _ e. is_for t (begun_in e.reply)) j

-- attempts of a branch run from 1 to its latest, at most to the limit, and all but the latest have
-- ended
pub record AttemptsInOrder (p : Plan) (j : List Entry) : Type 0 where
  pub numbered : (t : Attempt) → begun j t ≡ true → (1 ≤ t.number)
      × (t.number ≤ attempt j t.action t.branch)
  pub older : (t : Attempt) → 1 ≤ t.number → t.number < attempt j t.action t.branch
      → ended j t ≡ true
  pub limited : (a : ℕ) (b : Branch) → 1 ≤ p.limit → attempt j a b ≤ p.limit

-- a Launch begins the attempt after the branch's latest, and so does a Send of an attempt that
-- wasn't launched before. An attempt is sent once: where it was launched before, on the line on
-- which it was
pub record BeginsNext (j : List Entry) (t : Attempt) : Type 0 where
  pub next : t.number ≡ attempt j t.action t.branch + 1
  pub after : (attempt j t.action t.branch ≡ 0)
      ⊎ (ended j (attempt_of t.action t.branch (attempt j t.action t.branch)) ≡ true)
  pub unbegun : begun j t ≡ false

pub record ContinuesOn (j : List Entry) (l : ℕ) (t : Attempt) : Type 0 where
  pub launched : (lane : ℕ) × (launch_of j l ≡ Some (lane, t))
  pub unsent : was_sent j t ≡ false
  pub going : ended j t ≡ false
  pub latest : t.number ≡ attempt j t.action t.branch

abbrev pub Begins : List Entry → Option (ℕ × Attempt) → Option Request → Type 0
Begins j (Some x) _ = BeginsNext j x.1
Begins j None (Some q) = BeginsNext j q.attempt ⊎ ContinuesOn j q.line q.attempt
Begins j None None = Unit {0}

abbrev pub BeginInOrder : List Entry → Type 0
BeginInOrder j = AtEach (λ before e. Begins before (launch_in e.reply) (send_in e.reply)) j

-- ---- entries that end no attempt

-- the two journals say the same of grants, commits and ends
pub record SameActions (j k : List Entry) : Type 0 where
  pub grant : (a : ℕ) → grant_of k a ≡ grant_of j a
  pub commit : (a : ℕ) (b : Branch) → commit_of k a b ≡ commit_of j a b
  pub ended_too : (t : Attempt) → ended k t ≡ ended j t

-- and so of what is settled, ready and wanted
pub record SameStandings (p : Plan) (j k : List Entry) : Type 0 where
  pub settled_too : standings p k ≡ standings p j
  pub ready_too : (x : PlanAction) → ready p k x ≡ ready p j x
  pub wanted_too : (a : ℕ) (b : Branch) → wanted p k a b ≡ wanted p j a b
