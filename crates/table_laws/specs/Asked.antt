-- Which calls the premises are about, the entries with which one attempt ends, and the lines that
-- are bound for an action.
use Rattle.std.specs.Prelude.{◌≡◌, ℕ, zero, suc, ◌==◌, Bool, true, false, Option, Some, None, List, [], filter}
use Rattle.run_plan.specs.declared.plan.Plan.{Plan}
use Rattle.run_plan.specs.Groups.{berths}
use Rattle.list_lemmas.specs.Options.{and_more}
use Rattle.exec_journal.specs.declared.attempt.Attempt.{Attempt}
use Rattle.exec_journal.specs.declared.call.Call.{Call}
use Rattle.exec_journal.specs.declared.call.Call.TheVariants as call
use Rattle.exec_journal.specs.Entry.{Entry}
use Rattle.exec_journal.specs.Entries.{same_attempt, granted_in}
use Rattle.exec_journal.specs.Words.{last_line}
use Rattle.exec_journal.specs.Settled.{bound}
use Rattle.exec_journal.specs.Attempts.{begun_in}
use Rattle.journal_laws.specs.Invariant.{IsGoing}
use Rattle.journal_laws.specs.Steps.{EndExactly}

abbrev pub is_commit : Call → Bool
is_commit (call.Committed a b how) = true
is_commit _ = false

-- how a launch or a write went
abbrev pub is_report : Call → Bool
is_report (call.Launched l how) = true
is_report (call.Wrote l n how) = true
is_report _ = false

-- exactly this attempt ends with the entry, which was under way; nothing begins, is granted or
-- committed with it
pub record EndsOne (j : List Entry) (e : Entry) (t : Attempt) : Type 0 where
  pub exact : EndExactly j e (same_attempt t)
  pub going : IsGoing j t
  pub none : begun_in e.reply ≡ None
  pub ungranted : granted_in e.call e.reply ≡ None
  pub uncommitted : is_commit e.call ≡ false

-- ---- the lines to which the branches of an action are bound

-- the last lines of the first n berths
abbrev pub last_lines : List Entry → ℕ → List ℕ
last_lines j zero = []
last_lines j (suc n) = and_more (last_line j n) (last_lines j n)

abbrev pub is_of_action : ℕ → Option Attempt → Bool
is_of_action a (Some t) = a == t.action
is_of_action a None = false

abbrev pub lines_bound_for : Plan → List Entry → ℕ → List ℕ
lines_bound_for p j a = filter (λ l. is_of_action a (bound p j l)) (last_lines j (berths p))
