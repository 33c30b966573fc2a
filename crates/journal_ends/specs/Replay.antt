-- What is kept of all actions and lines while a journal is gone through once.
use Rattle.std.specs.Prelude.{◌≡◌, ℕ, Bool, true, false, ◌||◌, Option, Some, None, option_map, option_and_then, is_some, List, slice_get, replicate}
use Rattle.std.specs.Option.{option_or}
use Rattle.run_plan.specs.declared.plan.Branch.{Branch}
use Rattle.run_plan.specs.declared.plan.Branch.TheVariants.{Local, Remote}
use Rattle.exec_journal.specs.declared.attempt.Attempt.{Attempt}
use Rattle.exec_journal.specs.declared.ends.Cause.{Cause}
use Rattle.exec_journal.specs.Entry.{Entry}
use Rattle.exec_journal.specs.declared.call.Call.{Call}
use Rattle.exec_journal.specs.declared.call.Call.TheVariants as call
use Rattle.exec_journal.specs.declared.reply.Reply.{Reply}
use Rattle.exec_journal.specs.declared.reply.Reply.TheVariants as reply
use Rattle.journal_ends.specs.declared.replay.LineFact.{LineFact}
use Rattle.journal_ends.specs.declared.replay.BranchFact.{BranchFact}
use Rattle.journal_ends.specs.declared.replay.ActionFact.{ActionFact}
use Rattle.exec_journal.specs.Entries.{attempt_of, send_in, send_of_entry, launch_of_entry, consumed_in, ends, committed_in}
use Rattle.exec_journal.specs.Words.{last_work, has_ended, line_cause, answered, ever_sent, is_of_branch, grant_of, commit_of}
use Rattle.exec_journal.specs.Attempts.{number_if}
use Rattle.journal_lookback.specs.Lookback.{grants, grant_fact, ended_line, break_when, track_after, IsTrack}
use Rattle.list_lemmas.specs.Places.{update_if}

-- ---- which action and line an entry is about

abbrev pub reply_action : Reply → Option ℕ
reply_action (reply.Launch l a b t) = Some a
reply_action (reply.Send l n a b t) = Some a
reply_action (reply.Matched a b t) = Some a
reply_action (reply.Late a b t) = Some a
reply_action _ = None

abbrev pub call_action : Option Entry → Call → Option ℕ
call_action order (call.Claim a b t f) = Some a
call_action order (call.Committed a b how) = Some a
call_action order (call.Wrote l n how) = option_map (λ r. r.attempt.action) (send_of_entry order)
call_action order (call.Launched l how) = option_map (λ t. t.action) (launch_of_entry order)
call_action order _ = None

abbrev pub broken_line : Call → Option ℕ
broken_line (call.Wrote l n how) = Some l
broken_line (call.Answer l x) = Some l
broken_line (call.Ended l how) = Some l
broken_line _ = None

-- ---- what is kept after an entry

-- the flag with the attempt's number is set, where the answer is one of the branch
abbrev pub answers_after : List Bool → ℕ → Branch → Option Attempt → List Bool
answers_after flags a b o = update_if (λ _. true) flags (number_if a b o)

abbrev pub branch_after : BranchFact → Attempt → Option Entry → Entry → Bool → Option Cause
    → BranchFact
branch_after f t order e won line = record {
  commit = option_or f.commit (committed_in t.action t.branch e.call);
  sent = f.sent || is_of_branch t.action t.branch (send_in e.reply);
  answers = answers_after f.answers t.action t.branch (consumed_in e.reply);
  track = track_after f.track t order e won line;
}

abbrev pub action_after : List Entry → ℕ → ℕ → Option Entry → Entry → ActionFact → ActionFact
action_after j limit a order e f = record {
  grant = option_or f.grant (option_map grant_fact (grants a e));
  local = branch_after f.local (attempt_of a Local limit) order e (is_some f.grant)
      (ended_line j f.local.track.line);
  remote = branch_after f.remote (attempt_of a Remote limit) order e (is_some f.grant)
      (ended_line j f.remote.track.line);
}

abbrev pub line_after : Bool → ℕ → Entry → LineFact → LineFact
line_after late l e f = record {
  cause = option_or f.cause
      (break_when late l e.call e.reply);
  ended = ends l e.call || f.ended;
}

-- ---- it is what the journal says

abbrev pub branch_of : ActionFact → Branch → BranchFact
branch_of f Local = f.local
branch_of f Remote = f.remote

-- what the facts say of the attempt, where they have a flag for it
abbrev pub answer_flag : List ActionFact → Attempt → Option Bool
answer_flag fs t =
    option_and_then (λ f. slice_get (branch_of f t.branch).answers t.number) (slice_get fs t.action)

abbrev pub line_fact : List Entry → ℕ → LineFact
line_fact j l = record { cause = line_cause j l; ended = has_ended j l }

-- each flag says whether the attempt of the branch with that number was answered
pub record AreAnswers (flags : List Bool) (j : List Entry) (a : ℕ) (b : Branch) : Type 0 where
  pub each : (n : ℕ) (flag : Bool) → slice_get flags n ≡ Some flag
      → flag ≡ answered j (attempt_of a b n)

pub record IsBranchFact (f : BranchFact) (j : List Entry) (t : Attempt) : Type 0 where
  pub commits : f.commit ≡ commit_of j t.action t.branch
  pub sends : f.sent ≡ ever_sent j t.action t.branch
  pub answers : AreAnswers f.answers j t.action t.branch
  pub tracks : IsTrack f.track j t

pub record IsActionFact (f : ActionFact) (limit : ℕ) (j : List Entry) (a : ℕ) : Type 0 where
  pub grant_is : f.grant ≡ option_map grant_fact (grant_of j a)
  pub local_is : IsBranchFact f.local j (attempt_of a Local limit)
  pub remote_is : IsBranchFact f.remote j (attempt_of a Remote limit)

pub record AreActions (fs : List ActionFact) (limit : ℕ) (j : List Entry) : Type 0 where
  pub each : (a : ℕ) (f : ActionFact) → slice_get fs a ≡ Some f → IsActionFact f limit j a

pub record AreLines (fs : List LineFact) (j : List Entry) : Type 0 where
  pub each : (l : ℕ) (f : LineFact) → slice_get fs l ≡ Some f → f ≡ line_fact j l

-- the newest work of each lane, as `held` reads it from what stands at the lane's place
pub record AreOrders {R : Type 0} (held : R → Option Entry) (orders : List R)
    (j : List Entry) : Type 0 where
  pub each : (lane : ℕ) (order : R) → slice_get orders lane ≡ Some order
      → held order ≡ last_work j lane

-- ---- of which nothing was said yet

abbrev pub new_line : LineFact
new_line = record { cause = None; ended = false }

abbrev pub new_branch : BranchFact
new_branch = record {
  commit = None;
  sent = false;
  answers = replicate 11 false;
  track = record
      { line = None; answered = false; wrote = None; fault = None; ended = None };
}

abbrev pub new_action : ActionFact
new_action = record { grant = None; local = new_branch; remote = new_branch }

pub record AllNew {X : Type 0} (new : X) (xs : List X) : Type 0 where
  pub each : (i : ℕ) (x : X) → slice_get xs i ≡ Some x → x ≡ new
