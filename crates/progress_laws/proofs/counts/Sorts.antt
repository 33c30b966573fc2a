-- The kinds of entries that are counted.
use Rattle.std.proofs.Common.{Bool, true, false, ◌||◌}
use Rattle.exec_journal.specs.declared.call.Call.{Call}
use Rattle.exec_journal.specs.declared.call.Call.TheVariants as call
use Rattle.exec_journal.specs.declared.reply.Reply.{Reply}
use Rattle.exec_journal.specs.declared.reply.Reply.TheVariants as reply
use Rattle.exec_journal.specs.declared.reply.BreachWhy.TheVariants as breach
use Rattle.exec_journal.specs.Entries.{is_halt, is_stop}

-- orders for a request that was sent: to gather its answer, or to cancel it
abbrev pub follows_up : Reply → Bool
follows_up (reply.Gather l n a b t e v) = true
follows_up (reply.Cancel l n) = true
follows_up _ = false

abbrev pub is_kill : Reply → Bool
is_kill (reply.Kill l y) = true
is_kill _ = false

-- a tap lane is given a line
abbrev pub gives_line : Reply → Bool
gives_line (reply.Line l) = true
gives_line _ = false

-- what answers an order
abbrev pub is_report : Call → Bool
is_report (call.Launched l how) = true
is_report (call.Wrote l n how) = true
is_report (call.Claim a b t f) = true
is_report (call.Killed l) = true
is_report _ = false

abbrev pub is_end : Call → Bool
is_end (call.Ended l how) = true
is_end _ = false

abbrev pub is_commit : Call → Bool
is_commit (call.Committed a b how) = true
is_commit _ = false

-- a greeting, or an answer with which its line breaks and which is about no request
abbrev pub is_remark : Reply → Bool
is_remark reply.Greeted = true
is_remark (reply.Breach breach.WrongNumber) = true
is_remark (reply.Breach breach.Unasked) = true
is_remark _ = false

-- an answer to an open request
abbrev pub is_answer : Reply → Bool
is_answer (reply.Matched a b t) = true
is_answer (reply.Late a b t) = true
is_answer (reply.Breach breach.NotCancelled) = true
is_answer _ = false

-- the lane leaves
abbrev pub is_leave : Call → Reply → Bool
is_leave c x = is_halt c || is_stop x
