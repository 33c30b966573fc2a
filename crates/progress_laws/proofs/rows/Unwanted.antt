-- The executor was first with one action, so the worker's request was cancelled. Every lane rests
-- while the second action is with the executor: the unwanted request is still pending, and has its
-- Cancel.
use Rattle.std.proofs.Common.{◌≡◌, ◌*◌, zero, suc, refl, true, false, Some, List, ◌∷◌, pos, arith}
use Rattle.run_plan.specs.declared.plan.Branch.TheVariants.{Remote}
use Rattle.run_plan.specs.Groups.{berths}
use Rattle.exec_journal.specs.declared.call.Call.TheVariants as call
use Rattle.exec_journal.specs.declared.call.Written.TheVariants as write
use Rattle.exec_journal.specs.declared.reply.Reply.TheVariants as reply
use Rattle.exec_journal.specs.Entry.{Entry}
use Rattle.exec_journal.specs.Rules.{has_unwanted}
use Rattle.exec_journal.specs.Words.{halted, last_line, live}
use Rattle.exec_journal.proofs.Parts.{entry}
use Rattle.journal_laws.specs.IsLegal.{is_legal}
use Rattle.journal_laws.proofs.Decided.{legal_by}
use Rattle.journal_laws.proofs.rows.Cancelled.{cancelled_16, plan}
use Rattle.journal_laws.proofs.rows.Opened.{words}
use Rattle.discipline_laws.proofs.OwnDiscipline.{legal_own}
use Rattle.core_contract.specs.Disciplines.{LegalBy, own_discipline}
use Rattle.progress_laws.specs.Rests.{AllRest, Hears, Idles}
use Rattle.progress_laws.specs.Unwanted.{UnwantedAreAsked}
use Rattle.progress_laws.proofs.Own.{unwanted_asked}

unfoldable pub resting_18 : List Entry
unfolding entry cancelled_16
resting_18 =
    entry 2 (call.Wrote 1 (pos 2) write.Done) reply.Noted
    ∷ entry 2 call.Ask (reply.Send 1 (pos 2) 1 Remote 1)
    ∷ cancelled_16

-- ---- the premises

resting_legal : is_legal plan resting_18 ≡ true
unfolding plan resting_18 words
resting_legal = refl

legal : LegalBy (own_discipline plan) resting_18
legal = legal_own plan resting_18 (legal_by plan resting_18 resting_legal)

unhalted : halted resting_18 ≡ false
unfolding resting_18 words
unhalted = refl

rests : AllRest (own_discipline plan) (2 * berths plan) resting_18
unfolding plan resting_18 words
rests zero lt = Idles refl refl
rests (suc zero) lt = Hears 0 refl
rests (suc (suc zero)) lt = Idles refl refl
rests (suc (suc (suc zero))) lt = Hears 1 refl
rests (suc (suc (suc (suc lane)))) lt = absurd (omega (arith, lt))

last : last_line resting_18 0 ≡ Some 0
unfolding resting_18 words
last = refl

lives : live resting_18 0 ≡ true
unfolding resting_18 words
lives = refl

-- ---- the conclusion speaks of a request

asked : UnwantedAreAsked plan resting_18 0
asked = unwanted_asked plan resting_18 0 0 legal unhalted rests last lives

unwanted : has_unwanted plan resting_18 0 ≡ true
unfolding plan resting_18 words
unwanted = refl
