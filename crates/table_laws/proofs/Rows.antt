-- What the premises are about, on worked journals: no premise is empty.
use Rattle.std.specs.Prelude.{◌≡◌, refl, true, [], ◌∷◌}
use Rattle.run_plan.specs.declared.plan.Branch.TheVariants.{Local}
use Rattle.exec_journal.specs.declared.call.Call.TheVariants as call
use Rattle.exec_journal.specs.declared.call.HowEnded.TheVariants as end
use Rattle.exec_journal.specs.declared.reply.Reply.TheVariants as reply
use Rattle.exec_journal.specs.Entries.{attempt_of}
use Rattle.journal_laws.proofs.rows.Opened.{words}
use Rattle.call_laws.specs.Moments.{lost_with}
use Rattle.call_laws.proofs.rows.Dies as dies
use Rattle.retry_rules.specs.Entries.{ends_now, times}
use Rattle.worker_pool.specs.Entries.{pending_of_attempt}
use Rattle.exec_journal.proofs.Parts.{entry}
use Rattle.table_laws.specs.Asked.{lines_bound_for}

-- a branch of the first action is bound to line 0, and none of the second
bound_for_first : lines_bound_for dies.plan dies.early_3 0 ≡ 0 ∷ []
unfolding dies.plan dies.early_3 words
bound_for_first = refl

bound_for_second : lines_bound_for dies.plan dies.early_3 1 ≡ []
unfolding dies.plan dies.early_3 words
bound_for_second = refl

-- of two requests one is pending, and that of the Wrote to come isn't
one_waits : pending_of_attempt dies.feed_7 (attempt_of 0 Local 1) 0 ≡ 1
unfolding dies.early_3 dies.feed_7 words
one_waits = refl

one_is_closed : pending_of_attempt dies.feed_7 (attempt_of 1 Local 1) 0 ≡ 0
unfolding dies.early_3 dies.feed_7 words
one_is_closed = refl

-- both end with the line, each once
first_ends : ends_now dies.feed_8 (entry 1 (call.Ended 0 end.TapFault) reply.Noted) 0 Local ≡ true
unfolding dies.early_3 dies.feed_7 dies.feed_8 words
first_ends = refl

first_once : times 0 Local (lost_with dies.plan dies.feed_8 0) ≡ 1
unfolding dies.plan dies.early_3 dies.feed_7 dies.feed_8 words
first_once = refl

second_once : times 1 Local (lost_with dies.plan dies.feed_8 0) ≡ 1
unfolding dies.plan dies.early_3 dies.feed_7 dies.feed_8 words
second_once = refl
