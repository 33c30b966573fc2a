-- Runs that are over: lanes have left, or a process owes its end.
use Rattle.std.proofs.Common.{◌≡◌, ◌*◌, ◌⊎◌, ℕ, zero, suc, inl, inr, refl, true, false, List, [], ◌∷◌, arith}
use Rattle.run_plan.specs.Groups.{berths}
use Rattle.exec_journal.specs.declared.call.Call.TheVariants as call
use Rattle.exec_journal.specs.declared.call.Started.TheVariants as start
use Rattle.exec_journal.specs.declared.reply.Reply.TheVariants as reply
use Rattle.exec_journal.specs.declared.reply.Why.TheVariants as why
use Rattle.run_plan.specs.declared.plan.Branch.TheVariants.{Local}
use Rattle.exec_journal.specs.Entry.{Entry}
use Rattle.exec_journal.specs.Rules.{is_over}
use Rattle.exec_journal.specs.Settled.{all_settled}
use Rattle.exec_journal.proofs.Parts.{entry}
use Rattle.journal_laws.specs.IsLegal.{is_legal}
use Rattle.journal_laws.proofs.Decided.{legal_by}
use Rattle.journal_laws.proofs.rows.Opened.{words}
use Rattle.discipline_laws.proofs.OwnDiscipline.{legal_own}
use Rattle.core_contract.specs.Disciplines.{LegalBy, own_discipline}
use Rattle.placed_rules.proofs.PoolRows.{committed_9}
use Rattle.progress_laws.specs.Awaits.{Awaits, AwaitsEnd, Owes}
use Rattle.progress_laws.specs.Rests.{AllLeft, AllRest, Hears, Left, has_left}
use Rattle.progress_laws.proofs.Own.{ends_or_waits, leave}
use Rattle.progress_laws.proofs.rows.OwnBerths.{one_worker, seated, sound}

-- ---- all is settled, and the worker that was killed hasn't ended yet

unfoldable killed_12 : List Entry
unfolding entry committed_9
killed_12 =
    entry 0 call.Ask reply.Stop
    ∷ entry 0 (call.Killed 0) reply.Noted
    ∷ entry 0 call.Ask (reply.Kill 0 why.Quit)
    ∷ committed_9

killed_legal : is_legal one_worker killed_12 ≡ true
unfolding one_worker killed_12 words
killed_legal = refl

legal_killed : LegalBy (own_discipline one_worker) killed_12
legal_killed = legal_own one_worker killed_12 (legal_by one_worker killed_12 killed_legal)

settled : all_settled one_worker killed_12 ≡ true
unfolding one_worker killed_12 words
settled = refl

killed_over : is_over one_worker killed_12 ≡ true
killed_over = rw settled refl

rests_killed : AllRest (own_discipline one_worker) (2 * berths one_worker) killed_12
unfolding one_worker killed_12 words
rests_killed zero lt = Left refl
rests_killed (suc zero) lt = Hears 0 refl
rests_killed (suc (suc lane)) lt = absurd (omega (arith, lt))

leaves_killed : AllLeft (2 * berths one_worker) killed_12 ⊎ ((l : ℕ) × AwaitsEnd killed_12 l)
leaves_killed = leave one_worker killed_12 legal_killed killed_over rests_killed

tap_stays : has_left killed_12 1 ≡ false
unfolding killed_12 words
tap_stays = refl

killed_owes : AwaitsEnd killed_12 0
unfolding killed_12 words
killed_owes = record { given = refl; unended = refl; ends = inl refl }

-- ---- the proxy lane has halted, and its worker hasn't ended yet

unfoldable halted_4 : List Entry
unfolding entry
halted_4 =
    entry 0 call.Halt reply.Noted
    ∷ entry 1 call.Take (reply.Line 0)
    ∷ entry 0 (call.Launched 0 start.Done) reply.Noted
    ∷ entry 0 call.Ask (reply.Launch 0 0 Local 1)
    ∷ []

halted_legal : is_legal one_worker halted_4 ≡ true
unfolding one_worker halted_4 words
halted_legal = refl

legal_halted : LegalBy (own_discipline one_worker) halted_4
legal_halted = legal_own one_worker halted_4 (legal_by one_worker halted_4 halted_legal)

halted_over : is_over one_worker halted_4 ≡ true
unfolding one_worker halted_4 words
halted_over = refl

rests_halted : AllRest (own_discipline one_worker) (2 * berths one_worker) halted_4
unfolding one_worker halted_4 words
rests_halted zero lt = Left refl
rests_halted (suc zero) lt = Hears 0 refl
rests_halted (suc (suc lane)) lt = absurd (omega (arith, lt))

leaves_halted : AllLeft (2 * berths one_worker) halted_4 ⊎ ((l : ℕ) × AwaitsEnd halted_4 l)
leaves_halted = leave one_worker halted_4 legal_halted halted_over rests_halted

ends_halted : AllLeft (2 * berths one_worker) halted_4 ⊎ ((l : ℕ) × Owes halted_4 l)
ends_halted = ends_or_waits one_worker halted_4 sound seated legal_halted rests_halted

left_behind : AwaitsEnd halted_4 0
unfolding halted_4 words
left_behind = record {
  given = refl;
  unended = refl;
  ends = inr (record { lane = 0; proxy = refl; last = refl; halts = refl });
}

-- ---- a lane halts at once: no process owes anything, nothing is settled, and both lanes leave. So
-- that a run never waits for itself is said of runs without a Halt.

unfoldable halted_2 : List Entry
unfolding entry
halted_2 = entry 1 call.Take reply.Stop ∷ entry 0 call.Halt reply.Noted ∷ []

both_legal : is_legal one_worker halted_2 ≡ true
unfolding one_worker halted_2 words
both_legal = refl

legal_both : LegalBy (own_discipline one_worker) halted_2
legal_both = legal_own one_worker halted_2 (legal_by one_worker halted_2 both_legal)

rests_both : AllRest (own_discipline one_worker) (2 * berths one_worker) halted_2
unfolding one_worker halted_2 words
rests_both zero lt = Left refl
rests_both (suc zero) lt = Left refl
rests_both (suc (suc lane)) lt = absurd (omega (arith, lt))

halts_unsettled : (all_settled one_worker halted_2 ≡ true) ⊎ ((l : ℕ) × Awaits halted_2 l) → ⊥
unfolding one_worker halted_2 words
halts_unsettled (inl all) = cc
halts_unsettled (inr owes) = let given = owes.1.given in cc
