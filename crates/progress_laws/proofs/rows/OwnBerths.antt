-- One action on one worker: it was asked, every lane rests, and its answer is owed.
use Rattle.std.proofs.Common.{◌≡◌, ◌*◌, ◌⊎◌, ℕ, zero, suc, refl, ◌∙◌, true, false, Some, None, List, [], ◌∷◌, pos, ap, subst, arith}
use Rattle.run_plan.specs.declared.plan.Branch.TheVariants.{Local, Remote}
use Rattle.run_plan.specs.declared.plan.Plan.{Plan}
use Rattle.run_plan.specs.declared.plan.PlanAction.{PlanAction}
use Rattle.run_plan.specs.Groups.{berths}
use Rattle.run_plan.specs.Sound.{Sound}
use Rattle.exec_journal.specs.declared.call.Call.TheVariants as call
use Rattle.exec_journal.specs.declared.call.Started.TheVariants as start
use Rattle.exec_journal.specs.declared.call.Written.TheVariants as write
use Rattle.exec_journal.specs.declared.reply.Reply.TheVariants as reply
use Rattle.exec_journal.specs.Entry.{Entry}
use Rattle.exec_journal.specs.Settled.{all_settled}
use Rattle.exec_journal.specs.Words.{halted}
use Rattle.exec_journal.proofs.Parts.{entry, plan_of, single, worker}
use Rattle.journal_laws.specs.IsLegal.{is_legal}
use Rattle.journal_laws.proofs.Decided.{legal_by}
use Rattle.journal_laws.proofs.rows.Opened.{words}
use Rattle.discipline_laws.proofs.OwnDiscipline.{legal_own}
use Rattle.core_contract.specs.Disciplines.{LegalBy, own_discipline}
use Rattle.progress_laws.specs.Awaits.{Awaits}
use Rattle.progress_laws.specs.Rests.{AllRest, Hears, Idles}
use Rattle.run_values.specs.Runnable.{EachHasBerth, HasBerth}
use Rattle.progress_laws.proofs.Options.{some_same}
use Rattle.progress_laws.proofs.Own.{never_stuck}

unfoldable pub one_worker : Plan
unfolding plan_of worker single
one_worker = plan_of (worker ∷ []) (single 1 ∷ []) 2

unfoldable pub asked_5 : List Entry
unfolding entry
asked_5 =
    entry 1 call.Take (reply.Line 0)
    ∷ entry 0 (call.Wrote 0 (pos 0) write.Done) reply.Noted
    ∷ entry 0 call.Ask (reply.Send 0 (pos 0) 0 Local 1)
    ∷ entry 0 (call.Launched 0 start.Done) reply.Noted
    ∷ entry 0 call.Ask (reply.Launch 0 0 Local 1)
    ∷ []

-- ---- the premises

pub sound : Sound one_worker
unfolding one_worker plan_of worker single
sound = record {
  least = omega arith;
  most = omega arith;
  actions = omega arith;
  seats = omega arith;
  groups = omega arith;
  each_group = refl;
  each_action = refl;
}

pub seated : EachHasBerth one_worker
unfolding one_worker plan_of worker single
seated zero x Local g at runs =
    let named : Some 0 ≡ Some g = ap (λ (y : PlanAction). y.local) (some_same worker x at) ∙ runs in
    subst (HasBerth one_worker) (some_same 0 g named)
    (record { berth = 0; within = omega arith; is = refl })
seated zero x Remote g at runs =
    let named : None ≡ Some g = ap (λ (y : PlanAction). y.remote) (some_same worker x at) ∙ runs in
    absurd (cc)
seated (suc a) x b g at runs = absurd (cc)

pub asked_legal : is_legal one_worker asked_5 ≡ true
unfolding one_worker asked_5 words
asked_legal = refl

pub legal : LegalBy (own_discipline one_worker) asked_5
legal = legal_own one_worker asked_5 (legal_by one_worker asked_5 asked_legal)

unhalted : halted asked_5 ≡ false
unfolding asked_5 words
unhalted = refl

rests : AllRest (own_discipline one_worker) (2 * berths one_worker) asked_5
unfolding one_worker asked_5 words
rests zero lt = Idles refl refl
rests (suc zero) lt = Hears 0 refl
rests (suc (suc lane)) lt = absurd (omega (arith, lt))

-- ---- the conclusion: not all is settled, and the one line's process owes its answer

concludes : (all_settled one_worker asked_5 ≡ true) ⊎ ((l : ℕ) × Awaits asked_5 l)
concludes = never_stuck one_worker asked_5 sound seated legal unhalted rests

unsettled : all_settled one_worker asked_5 ≡ false
unfolding one_worker asked_5 words
unsettled = refl

awaited : Awaits asked_5 0
unfolding asked_5 words
awaited = record { given = refl; unended = refl; owed = refl }
