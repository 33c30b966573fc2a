-- Orders and matches: what an Ask is answered, and what stands there when it comes.
use Rattle.std.specs.Prelude.{◌≡◌, refl, true, false, Some, None, [], ◌∷◌, length, pos}
use Rattle.run_plan.specs.declared.plan.Branch.TheVariants.{Local, Remote}
use Rattle.run_plan.specs.Groups.{has_cancellation}
use Rattle.exec_journal.specs.declared.call.Call.TheVariants as call
use Rattle.exec_journal.specs.declared.call.Found.TheVariants as found
use Rattle.exec_journal.specs.declared.reply.Reply.TheVariants as reply
use Rattle.exec_journal.specs.Entries.{Request, attempt_of}
use Rattle.exec_journal.specs.Words.{broke, grant_of, has_cancel, last_line, live, pending}
use Rattle.exec_journal.specs.Rules.{gathers_next, may_cancel, rule}
use Rattle.exec_journal.specs.Scripts.{script}
use Rattle.exec_journal.proofs.Parts.{entry}
use Rattle.journal_laws.proofs.rows.AnswersTwice as twice
use Rattle.journal_laws.proofs.rows.BothAnswer as both
use Rattle.journal_laws.proofs.rows.Opened.{words}
use Rattle.journal_laws.proofs.rows.RemoteCancel as greets
use Rattle.call_laws.specs.Matches.{Matched, gather_of, is_spent, recent}
use Rattle.call_laws.proofs.rows.Dies as dies

-- ---- what is bound is sent, and on a line with room the next action's branch beside it

bound_last : last_line dies.early_3 0 ≡ Some 0
unfolding dies.early_3 words
bound_last = refl

bound_live : live dies.early_3 0 ≡ true
unfolding dies.early_3 words
bound_live = refl

asks : script dies.plan dies.early_3 0 call.Ask ≡ true
unfolding dies.plan dies.early_3 words
asks = refl

sends_bound : rule dies.plan dies.early_3 0 call.Ask ≡ reply.Send 0 (pos 1) 0 Local 1
unfolding dies.plan dies.early_3 words
sends_bound = refl

launches : rule dies.plan [] 0 call.Ask ≡ reply.Launch 0 0 Local 1
unfolding dies.plan words
launches = refl

-- ---- of two requests one is matched: it waits, and the other keeps its place on the line

unfoldable match_2 : Matched
match_2 = record {
  line = 0;
  number = pos 2;
  attempt = attempt_of 1 Local 1;
  exit = pos 0;
  refused = false;
}

one_recent : recent dies.feed_7 0 ≡ match_2 ∷ []
unfolding dies.early_3 dies.feed_7 match_2 recent words
one_recent = refl

one_pending : length (pending dies.feed_7 0) ≡ 1
unfolding dies.early_3 dies.feed_7 words
one_pending = refl

whole : broke dies.feed_7 0 ≡ false
unfolding dies.early_3 dies.feed_7 words
whole = refl

unspent : is_spent dies.feed_7 (attempt_of 1 Local 1) ≡ false
unfolding dies.early_3 dies.feed_7 words
unspent = refl

-- it waits no longer once its feed has failed
spent : is_spent dies.feed_8 (attempt_of 1 Local 1) ≡ true
unfolding dies.early_3 dies.feed_7 dies.feed_8 words
spent = refl

-- ---- what is written and waits is gathered

unfoldable match_0 : Matched
match_0 = record {
  line = 0;
  number = pos 0;
  attempt = attempt_of 0 Local 1;
  exit = pos 0;
  refused = false;
}

written_recent : recent twice.twice_6 0 ≡ match_0 ∷ []
unfolding twice.twice_6 match_0 recent words
written_recent = refl

gathers : gathers_next twice.twice_6 0 ≡ Some (gather_of match_0)
unfolding twice.twice_6 match_0 words
gathers = refl

-- ---- a Claim finds its action open

claims : script both.plan both.both_14 2 (call.Claim 0 Remote 1 (found.Files ((120 ∷ []) ∷ [])))
    ≡ true
unfolding both.plan both.both_8 both.both_14 words
claims = refl

ungranted : grant_of both.both_14 0 ≡ None
unfolding both.both_8 both.both_14 words
ungranted = refl

-- ---- an executor that greeted is asked to cancel, though its group has no cancellation

unfoldable remote_1 : Request
remote_1 = record { line = 1; number = pos 1; attempt = attempt_of 0 Remote 1 }

no_cancellation : has_cancellation greets.plan 1 ≡ false
unfolding greets.plan words
no_cancellation = refl

may_be_asked : may_cancel greets.plan greets.greeted_15 1 1 1 ≡ true
unfolding greets.plan greets.remote_10 greets.greeted_11 greets.greeted_15 words
may_be_asked = refl

is_asked : has_cancel (entry 2 call.Ask (reply.Cancel 1 (pos 1)) ∷ greets.greeted_15) remote_1
    ≡ true
unfolding greets.remote_10 greets.greeted_11 greets.greeted_15 remote_1 words
is_asked = refl
