-- What the code that looks through a journal keeps of it.
use Rattle.std.specs.Prelude.{◌≡◌, ℕ, ◌==◌, Bool, true, false, ◌&&◌, ◌||◌, not, Option, Some, None, is_some, if◌then◌else◌, List, reverse, take}
use Rattle.std.specs.Option.{option_or}
use Rattle.exec_journal.specs.declared.attempt.Attempt.{Attempt}
use Rattle.exec_journal.specs.declared.ends.Cause.{Cause}
use Rattle.exec_journal.specs.declared.ends.Cause.TheVariants as cause
use Rattle.exec_journal.specs.declared.ends.Outcome.{Outcome}
use Rattle.exec_journal.specs.declared.ends.Outcome.TheVariants as outcome
use Rattle.exec_journal.specs.declared.ends.Standing.{Standing}
use Rattle.exec_journal.specs.declared.ends.Standing.TheVariants.{Unsuccessful}
use Rattle.exec_journal.specs.Entry.{Entry}
use Rattle.exec_journal.specs.declared.call.Call.{Call}
use Rattle.exec_journal.specs.declared.call.Call.TheVariants as call
use Rattle.exec_journal.specs.declared.call.Found.{Found}
use Rattle.exec_journal.specs.declared.call.Found.TheVariants as found
use Rattle.exec_journal.specs.declared.call.Written.{Written}
use Rattle.exec_journal.specs.declared.call.Written.TheVariants as write
use Rattle.exec_journal.specs.declared.reply.Reply.{Reply}
use Rattle.exec_journal.specs.declared.reply.Reply.TheVariants as reply
use Rattle.journal_lookback.specs.declared.grant.Grant.{Grant}
use Rattle.journal_lookback.specs.declared.grant.GrantKind.{GrantKind}
use Rattle.journal_lookback.specs.declared.grant.GrantKind.TheVariants as prize
use Rattle.journal_lookback.specs.declared.attempt_state.Track.{Track}
use Rattle.list_lemmas.specs.Options.{or_else}
use Rattle.exec_journal.specs.Entries.{Request, is_look, is_halt, is_unwritten, is_for, consumed_in, granted_in, send_of_entry}
use Rattle.exec_journal.specs.Words.{has_ended, answered, wrote, wrote_if, says_feed_fault, line_cause, if_line, end_cause, granted, of_action, commit_of}
use Rattle.exec_journal.specs.Attempts.{carrier_in, line_of, fault_by, fault_of, end_of}
use Rattle.exec_journal.specs.Settled.{by_commit}
use Rattle.exec_journal.specs.Outcomes.{commit_outcome}

-- an entry of the lane that is neither a Look nor a Halt
abbrev pub is_work : ℕ → Entry → Bool
is_work lane e = (e.lane == lane) && (not (is_look e.call) && not (is_halt e.call))

-- the journal of the first i entries, the newest first
abbrev pub front : List Entry → ℕ → List Entry
front entries i = reverse (take i entries)

-- ---- a grant in short

abbrev pub prize_of : Found → GrantKind
prize_of (found.Files fs) = prize.Files
prize_of (found.Exit n) = prize.Exit n
prize_of _ = prize.Nothing

abbrev pub grant_fact : Attempt × Found → Grant
grant_fact x = record { attempt = x.0; prize = prize_of x.1 }

-- the entry grants the action
abbrev pub grants : ℕ → Entry → Option (Attempt × Found)
grants a e = of_action a (granted_in e.call e.reply)

abbrev pub is_refusal_reply : Reply → Bool
is_refusal_reply reply.AgainLater = true
is_refusal_reply reply.Dropped = true
is_refusal_reply _ = false

-- ---- how a line ended

-- the cause of a line that has Ended
abbrev pub ended_line : List Entry → Option ℕ → Option Cause
ended_line j (Some l) = if has_ended j l then line_cause j l else None
ended_line j None = None

-- ---- the break of a line, where it is known whether a request that wasn't written was already answered

abbrev pub leaves_unwritten : Call → Bool
leaves_unwritten (call.Wrote l n how) = is_unwritten how
leaves_unwritten _ = false

abbrev pub writes_to : ℕ → Call → Bool
writes_to l (call.Wrote k n how) = k == l
writes_to l _ = false

abbrev pub was_answered : List Entry → Option Request → Bool
was_answered j (Some r) = answered j r.attempt
was_answered j None = false

-- the call says of the request that it wasn't written, and that was already answered
abbrev pub is_late : List Entry → Option Request → Call → Bool
is_late j order c = leaves_unwritten c && was_answered j order

abbrev pub write_break : Bool → Written → Option Cause
write_break late write.FeedFault = Some cause.Feed
write_break late write.Done = None
write_break late _ = if late then Some cause.Breach else None

abbrev pub break_when : Bool → ℕ → Call → Reply → Option Cause
break_when late l (call.Wrote k n how) _ = if_line k l (write_break late how)
break_when late l (call.Answer k a) (reply.Breach w) = if_line k l (Some cause.Breach)
break_when late l (call.Ended k how) _ = if_line k l (Some (end_cause how))
break_when late l _ _ = None

-- ---- what is kept of an attempt

-- the cause with which it has ended, where those of its line and its action's grant are known
abbrev pub lost_of : Track → Option Cause → Option Cause
lost_of k line = if not k.answered || says_feed_fault k.wrote then line else None

abbrev pub end_now : Track → Bool → Option Cause → Option Cause
end_now k won line = or_else k.ended (if won then None else or_else k.fault (lost_of k line))

-- what is kept after an entry, before which its lane's newest work was `order`
abbrev pub track_after : Track → Attempt → Option Entry → Entry → Bool → Option Cause → Track
track_after k t order e won line = record {
  line = option_or (carrier_in t e.reply) k.line;
  answered = is_for t (consumed_in e.reply) || k.answered;
  wrote = option_or k.wrote (wrote_if t e.call (send_of_entry order));
  fault = option_or k.fault (fault_by t order e.call e.reply);
  ended = end_now k won line;
}

-- the entry says something of the attempt or grants its action
abbrev pub concerns : Attempt → Option Entry → Entry → Bool
concerns t order e =
    (is_some (carrier_in t e.reply) || is_for t (consumed_in e.reply))
    || ((is_some (wrote_if t e.call (send_of_entry order))
    || is_some (fault_by t order e.call e.reply)) || is_some (grants t.action e))

-- it is what the journal says of the attempt
pub record IsTrack (k : Track) (j : List Entry) (t : Attempt) : Type 0 where
  pub line : k.line ≡ line_of j t
  pub answer : k.answered ≡ answered j t
  pub write : k.wrote ≡ wrote j t
  pub own : k.fault ≡ fault_of j t
  pub finish : end_now k (granted j t.action) (ended_line j k.line) ≡ end_of j t

-- ---- by a grant in short

abbrev pub standing_by : List Entry → Attempt → GrantKind → Option Standing
standing_by j t (prize.Exit n) = Some Unsuccessful
standing_by j t prize.Files = by_commit (commit_of j t.action t.branch)
standing_by j t prize.Nothing = None

abbrev pub outcome_by : List Entry → Attempt → GrantKind → Option Outcome
outcome_by j t (prize.Exit n) = Some (outcome.Failed t.branch n)
outcome_by j t prize.Files = commit_outcome t.branch (commit_of j t.action t.branch)
outcome_by j t prize.Nothing = None
