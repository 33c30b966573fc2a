-- The matches of a berth since its last Send: those that may still wait for their Gather.
use Rattle.std.specs.Prelude.{ℕ, ◌/◌, ◌==◌, nat_lt, Bool, true, false, ◌&&◌, ◌||◌, not, Option, Some, None, is_some, if◌then◌else◌, List, [], ◌∷◌, length, ℤ}
use Rattle.exec_journal.specs.declared.attempt.Attempt.{Attempt}
use Rattle.exec_journal.specs.Entry.{Entry}
use Rattle.exec_journal.specs.declared.call.Call.{Call}
use Rattle.exec_journal.specs.declared.call.Call.TheVariants as call
use Rattle.exec_journal.specs.declared.call.Written.{Written}
use Rattle.exec_journal.specs.declared.call.Written.TheVariants as write
use Rattle.exec_journal.specs.declared.reply.Reply.{Reply}
use Rattle.exec_journal.specs.declared.reply.Reply.TheVariants as reply
use Rattle.list_lemmas.specs.Options.{and_more}
use Rattle.exec_journal.specs.Entries.{attempt_of, send_in}
use Rattle.exec_journal.specs.Words.{wrote, granted}
use Rattle.exec_journal.specs.Rules.{gathered}

-- an answer that was matched: its line and number, its attempt, its exit code, and whether it is a
-- refusal
pub record Matched : Type 0 where
  pub line : ℕ
  pub number : ℤ
  pub attempt : Attempt
  pub exit : ℤ
  pub refused : Bool

abbrev pub matched_by : Call → Reply → Option Matched
matched_by (call.Answer l x) (reply.Matched a b t) =
    Some (record {
      line = l;
      number = x.number;
      attempt = attempt_of a b t;
      exit = x.exit;
      refused = nat_lt 0 (length x.refusal);
    })
matched_by _ _ = None

abbrev pub matched_at : ℕ → Entry → Option Matched
matched_at w e = if e.lane / 2 == w then matched_by e.call e.reply else None

abbrev pub sends_at : ℕ → Entry → Bool
sends_at w e = (e.lane / 2 == w) && is_some (send_in e.reply)

-- those of the berth since its last Send, the newest first
unfoldable pub recent : List Entry → ℕ → List Matched
recent [] w = []
recent (e ∷ j) w = if sends_at w e then [] else and_more (matched_at w e) (recent j w)

abbrev pub is_faulty : Option Written → Bool
is_faulty (Some write.Done) = false
is_faulty (Some _) = true
is_faulty None = false

-- it waits no longer: a Gather of it was ordered, its Wrote says a fault, or its action has a grant
abbrev pub is_spent : List Entry → Attempt → Bool
is_spent j t = gathered j t || (is_faulty (wrote j t) || granted j t.action)

-- the order to gather it
abbrev pub gather_of : Matched → Reply
gather_of m =
    reply.Gather m.line m.number m.attempt.action m.attempt.branch m.attempt.number m.exit m.refused

-- so is it not yet
abbrev pub waits_yet : List Entry → Matched → Bool
waits_yet j m = not (is_spent j m.attempt)
