-- What a call that is in its lane's script makes of the tables.
use Rattle.std.specs.Prelude.{ℕ, ◌/◌, ◌<◌, Bool, true, false, length}
use Rattle.exec_journal.specs.declared.call.Call.{Call}
use Rattle.exec_journal.specs.declared.call.Call.TheVariants as call
use Rattle.exec_journal.specs.declared.reply.Reply.{Reply}
use Rattle.exec_journal.specs.declared.reply.Reply.TheVariants as reply
use Rattle.exec_journal.specs.Entries.{attempt_of}
use Rattle.core_tables.specs.declared.berth_group.BerthGroup.{BerthGroup}
use Rattle.core_state.specs.declared.state.State.{State}
use Rattle.core_state.specs.Choices.{Reads}
use Rattle.core_state.specs.Machine.{CanEndOf, CanClaim, launch_by, launched_with, killed_with, take_reply, takeable, taken_with, committed_with, claim_reply_by, claimed_with, order_at}
use Rattle.core_state.specs.Reports.{CanAnswer, CanWrite, CanEndAll, answer_reply_by, answered_with, wrote_with, ended_with, sent_in}

-- any call but an Ask, for which what was chosen is carried out, and a Look, which asks nothing of
-- the tables
abbrev pub is_report : Call → Bool
is_report call.Ask = false
is_report (call.Look x) = false
is_report _ = true

abbrev pub made_reply : State → ℕ → BerthGroup → Call → Reply
made_reply s lane seat (call.Claim a b t f) = claim_reply_by s (attempt_of a b t) f
made_reply s lane seat call.Take = take_reply s (takeable s (lane / 2))
made_reply s lane seat (call.Answer l x) = answer_reply_by s (lane / 2) seat l x
made_reply s lane seat _ = reply.Noted

abbrev pub made : State → ℕ → BerthGroup → Call → State
made s lane seat (call.Launched l how) = launched_with s lane l how
made s lane seat (call.Wrote l n how) = wrote_with s lane (lane / 2) l n how
made s lane seat (call.Claim a b t f) = claimed_with s (attempt_of a b t) f
made s lane seat (call.Committed a b how) = committed_with s a how
made s lane seat (call.Killed l) = killed_with s l
made s lane seat call.Take = taken_with s (lane / 2) (takeable s (lane / 2))
made s lane seat (call.Answer l x) = answered_with s (lane / 2) seat l x
made s lane seat (call.Ended l how) = ended_with s (lane / 2) seat l how
made s lane seat _ = s

pub record CanLaunched (s : State) (lane l : ℕ) : Type 0 where
  pub lane_known : lane < length s.lanes
  pub line : l < length s.pool.lines
  pub ends : CanEndOf s (launch_by s lane)

pub record CanCommit (s : State) (a : ℕ) : Type 0 where
  pub race : a < length s.race
  pub ready : a < length s.ready

-- all that its calls of the tables ask is there
abbrev pub CanMake : State → ℕ → BerthGroup → Call → Type 0
CanMake s lane seat (call.Launched l how) = CanLaunched s lane l
CanMake s lane seat (call.Wrote l n how) = CanWrite s lane (lane / 2) l (sent_in (order_at s lane))
CanMake s lane seat (call.Claim a b t f) = CanClaim s (attempt_of a b t)
CanMake s lane seat (call.Committed a b how) = CanCommit s a
CanMake s lane seat (call.Killed l) = l < length s.pool.lines
CanMake s lane seat call.Take = Reads s (lane / 2)
CanMake s lane seat (call.Answer l x) = CanAnswer s (lane / 2) seat l x.number
CanMake s lane seat (call.Ended l how) = CanEndAll s (lane / 2) seat l
CanMake s lane seat _ = Unit {0}
