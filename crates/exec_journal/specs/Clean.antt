-- A journal in which every worker did its part.
use Rattle.std.specs.Prelude.{◌≡◌, ℕ, nat_lt, Bool, true, false, ◌&&◌, ◌||◌, not, List, length, pos}
use Rattle.std.specs.List.{list_any}
use Rattle.std.specs.Ordering.{int_eq}
use Rattle.exec_journal.specs.Entry.{Entry}
use Rattle.exec_journal.specs.declared.call.Answer.{Answer}
use Rattle.exec_journal.specs.declared.call.Call.{Call}
use Rattle.exec_journal.specs.declared.call.Call.TheVariants as call
use Rattle.exec_journal.specs.declared.call.Started.TheVariants as start
use Rattle.exec_journal.specs.declared.call.Found.TheVariants as found
use Rattle.exec_journal.specs.declared.call.CommitEnd.TheVariants as commit
use Rattle.exec_journal.specs.declared.call.Written.TheVariants as write
use Rattle.exec_journal.specs.declared.reply.Reply.{Reply}
use Rattle.exec_journal.specs.declared.reply.Reply.TheVariants as reply
use Rattle.exec_journal.specs.History.{AtEach}
use Rattle.exec_journal.specs.Words.{sends, answered, kill_ordered, has_cancel}

-- the answer has a request with its number that no earlier answer has answered, and says cancelled
-- only where that has a Cancel
abbrev pub is_asked : List Entry → ℕ → Answer → Bool
is_asked j l x =
    list_any (λ r. int_eq r.number x.number
    && (not (answered j r.attempt) && (not x.cancelled || has_cancel j r))) (sends j l)

-- every launch, write and commit says Done and every claim has its files; a line ends only after it
-- was to be killed; and each answer is a greeting, or was asked for, has the exit code 0 and no
-- refusal
abbrev pub clean_at : List Entry → Call → Reply → Bool
clean_at j (call.Launched l start.Done) _ = true
clean_at j (call.Launched l _) _ = false
clean_at j (call.Wrote l n write.Done) _ = true
clean_at j (call.Wrote l n _) _ = false
clean_at j (call.Committed a b commit.Done) _ = true
clean_at j (call.Committed a b _) _ = false
clean_at j (call.Claim a b t (found.Files fs)) _ = true
clean_at j (call.Claim a b t _) _ = false
clean_at j (call.Ended l how) _ = kill_ordered j l
clean_at j (call.Answer l x) reply.Greeted = true
clean_at j (call.Answer l x) _ =
    is_asked j l x && (int_eq x.exit (pos 0) && not (nat_lt 0 (length x.refusal)))
clean_at j _ _ = true

abbrev pub Clean : List Entry → Type 0
Clean j = AtEach (λ before e. clean_at before e.call e.reply ≡ true) j
