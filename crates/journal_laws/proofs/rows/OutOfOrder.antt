-- A multiplex worker answers out of order: each answer is matched by its number, and a stray one changes nothing.
use Rattle.std.specs.Prelude.{◌≡◌, refl, true, false, List, [], ◌∷◌, pos}
use Rattle.run_plan.specs.declared.plan.Branch.TheVariants.{Local}
use Rattle.run_plan.specs.declared.plan.Plan.{Plan}
use Rattle.exec_journal.specs.Entry.{Entry}
use Rattle.exec_journal.specs.declared.call.Call.TheVariants as call
use Rattle.exec_journal.specs.declared.call.Started.TheVariants as start
use Rattle.exec_journal.specs.declared.call.Written.TheVariants as write
use Rattle.exec_journal.specs.declared.reply.Reply.TheVariants as reply
use Rattle.exec_journal.specs.declared.reply.StrayWhy.TheVariants as stray
use Rattle.exec_journal.specs.Words as w
use Rattle.exec_journal.proofs.Parts.{entry, numbered, worker, plan_of, multi}
use Rattle.journal_laws.specs.IsLegal.{is_legal}
use Rattle.journal_laws.proofs.rows.Opened.{words, misses}

unfoldable pub plan : Plan
unfolding plan_of worker multi
plan = plan_of (worker ∷ worker ∷ []) (multi ∷ []) 2

unfoldable pub out_of_order_4 : List Entry
unfolding entry
out_of_order_4 =
    entry 0 (call.Wrote 0 (pos 1) write.Done) reply.Noted
    ∷ entry 0 call.Ask (reply.Send 0 (pos 1) 0 Local 1)
    ∷ entry 0 (call.Launched 0 start.Done) reply.Noted
    ∷ entry 0 call.Ask (reply.Launch 0 0 Local 1)
    ∷ []

unfoldable pub out_of_order_7 : List Entry
unfolding entry out_of_order_4
out_of_order_7 =
    entry 1 call.Take (reply.Line 0)
    ∷ entry 0 (call.Wrote 0 (pos 2) write.Done) reply.Noted
    ∷ entry 0 call.Ask (reply.Send 0 (pos 2) 1 Local 1)
    ∷ out_of_order_4

unfoldable pub out_of_order_11 : List Entry
unfolding entry out_of_order_4 out_of_order_7
out_of_order_11 =
    entry 1 (call.Answer 0 (numbered 9)) (reply.Stray stray.Never)
    ∷ entry 1 (call.Answer 0 (numbered 2)) (reply.Stray stray.Closed)
    ∷ entry 1 (call.Answer 0 (numbered 1)) (reply.Matched 0 Local 1)
    ∷ entry 1 (call.Answer 0 (numbered 2)) (reply.Matched 1 Local 1)
    ∷ out_of_order_7

unfoldable pub out_of_order : List Entry
unfolding entry out_of_order_4 out_of_order_7 out_of_order_11
out_of_order =
    entry 0 call.Ask (reply.Gather 0 (pos 2) 1 Local 1 (pos 0) false)
    ∷ out_of_order_11

out_of_order_legal : is_legal plan out_of_order ≡ true
unfolding plan out_of_order words
out_of_order_legal = refl

-- an answer is not matched with the oldest request
oldest_match : misses plan (entry 1 (call.Answer 0 (numbered 2)) (reply.Matched 0 Local 1) ∷ out_of_order_7) ≡ true
unfolding plan out_of_order_7 words
oldest_match = refl

-- a number is not used again on its line
number_again : misses plan (entry 0 call.Ask (reply.Send 0 (pos 1) 1 Local 1) ∷ out_of_order_4) ≡ true
unfolding plan out_of_order_4 words
number_again = refl

-- the match that came first is gathered first
second_gathered : misses plan (entry 0 call.Ask (reply.Gather 0 (pos 1) 0 Local 1 (pos 0) false) ∷ out_of_order_11) ≡ true
unfolding plan out_of_order_11 words
second_gathered = refl

-- the line stays live
still_live : w.live out_of_order 0 ≡ true
unfolding out_of_order words
still_live = refl
