-- Two actions of both kinds, and a delay of one Tick: the worker has the first and the executor has
-- both, every lane rests, and the second one's local branch is queued and has waited.
use Rattle.std.proofs.Common.{◌≡◌, ◌+◌, ◌*◌, ◌⊎◌, ℕ, zero, suc, refl, ◌∙◌, true, false, Some, List, [], ◌∷◌, pos, ap, subst, arith}
use Rattle.std.specs.Prelude.{slice_get}
use Rattle.run_plan.specs.declared.plan.Branch.{Branch}
use Rattle.run_plan.specs.declared.plan.Branch.TheVariants.{Local, Remote}
use Rattle.run_plan.specs.declared.plan.Plan.{Plan}
use Rattle.run_plan.specs.declared.plan.PlanAction.{PlanAction}
use Rattle.run_plan.specs.Groups.{berths, group_of}
use Rattle.run_plan.specs.Sound.{Sound}
use Rattle.exec_journal.specs.declared.call.Call.TheVariants as call
use Rattle.exec_journal.specs.declared.call.Started.TheVariants as start
use Rattle.exec_journal.specs.declared.call.Written.TheVariants as write
use Rattle.exec_journal.specs.declared.reply.Reply.TheVariants as reply
use Rattle.exec_journal.specs.Entry.{Entry}
use Rattle.exec_journal.specs.Settled.{all_settled, queued}
use Rattle.exec_journal.specs.Words.{halted}
use Rattle.exec_journal.proofs.Parts.{dynamic, entry, plan_of, remote, single}
use Rattle.journal_laws.proofs.rows.Opened.{words}
use Rattle.core_contract.specs.Disciplines.{LegalBy}
use Rattle.placed_rules.specs.Placed.{delayed_discipline}
use Rattle.placed_rules.specs.Due.{delayed_earliest, has_waited, ticks_since}
use Rattle.progress_laws.specs.Awaits.{Awaits}
use Rattle.progress_laws.specs.Rests.{AllRest, Hears, Idles}
use Rattle.run_values.specs.Runnable.{EachHasBerth, HasBerth}
use Rattle.progress_laws.proofs.Delay.{never_stuck}
use Rattle.progress_laws.proofs.Ticks.{none_waits_unticked}
use Rattle.progress_laws.proofs.Options.{some_same}

unfoldable pub two_dual : Plan
unfolding plan_of dynamic single remote
two_dual = plan_of (dynamic ∷ dynamic ∷ []) (single 1 ∷ remote ∷ []) 2

unfoldable pub delayed_words : Unit {0}
unfolding words delayed_earliest ticks_since
delayed_words = tt

unfoldable pub sent_6 : List Entry
unfolding entry
sent_6 =
    entry 2 (call.Wrote 0 (pos 2) write.Done) reply.Noted
    ∷ entry 2 call.Ask (reply.Send 0 (pos 2) 1 Remote 1)
    ∷ entry 2 (call.Wrote 0 (pos 1) write.Done) reply.Noted
    ∷ entry 2 call.Ask (reply.Send 0 (pos 1) 0 Remote 1)
    ∷ entry 2 (call.Launched 0 start.Done) reply.Noted
    ∷ entry 2 call.Ask (reply.Launch 0 0 Remote 1)
    ∷ []

unfoldable pub ticked_8 : List Entry
unfolding entry sent_6
ticked_8 = entry 4 call.Tick reply.Noted ∷ entry 3 call.Take (reply.Line 0) ∷ sent_6

unfoldable pub asked_13 : List Entry
unfolding entry ticked_8
asked_13 =
    entry 1 call.Take (reply.Line 1)
    ∷ entry 0 (call.Wrote 1 (pos 0) write.Done) reply.Noted
    ∷ entry 0 call.Ask (reply.Send 1 (pos 0) 0 Local 1)
    ∷ entry 0 (call.Launched 1 start.Done) reply.Noted
    ∷ entry 0 call.Ask (reply.Launch 1 0 Local 1)
    ∷ ticked_8

-- ---- the premises

sound : Sound two_dual
unfolding two_dual plan_of dynamic single remote
sound = record {
  least = omega arith;
  most = omega arith;
  actions = omega arith;
  seats = omega arith;
  groups = omega arith;
  each_group = refl;
  each_action = refl;
}

has_local : HasBerth two_dual 0
unfolding two_dual plan_of dynamic single remote
has_local = record { berth = 0; within = omega arith; is = refl }

has_remote : HasBerth two_dual 1
unfolding two_dual plan_of dynamic single remote
has_remote = record { berth = 1; within = omega arith; is = refl }

of_dual : (x : PlanAction) (b : Branch) (g : ℕ) → Some dynamic ≡ Some x → group_of x b ≡ Some g
    → HasBerth two_dual g
unfolding dynamic
of_dual x Local g at runs =
    let named : Some 0 ≡ Some g = ap (λ (y : PlanAction). y.local) (some_same dynamic x at)
    ∙ runs in
    subst (HasBerth two_dual) (some_same 0 g named) has_local
of_dual x Remote g at runs =
    let named : Some 1 ≡ Some g = ap (λ (y : PlanAction). y.remote) (some_same dynamic x at)
    ∙ runs in
    subst (HasBerth two_dual) (some_same 1 g named) has_remote

seated : EachHasBerth two_dual
unfolding two_dual plan_of
seated zero x b g at runs = of_dual x b g at runs
seated (suc zero) x b g at runs = of_dual x b g at runs
seated (suc (suc a)) x b g at runs = absurd (cc)

legal_6 : LegalBy (delayed_discipline two_dual 1) sent_6
unfolding two_dual sent_6 delayed_words
legal_6 = (
  (
    (
      (
        (
          (tt, record { scripted = refl; replied = refl; kept = refl }),
          record { scripted = refl; replied = refl; kept = refl },
        ),
        record { scripted = refl; replied = refl; kept = refl },
      ),
      record { scripted = refl; replied = refl; kept = refl },
    ),
    record { scripted = refl; replied = refl; kept = refl },
  ),
  record { scripted = refl; replied = refl; kept = refl },
)

legal_13 : LegalBy (delayed_discipline two_dual 1) asked_13
unfolding two_dual ticked_8 asked_13 delayed_words
legal_13 = (
  (
    (
      (
        (
          (
            (legal_6, record { scripted = refl; replied = refl; kept = refl }),
            record { scripted = refl; replied = refl; kept = refl },
          ),
          record { scripted = refl; replied = refl; kept = refl },
        ),
        record { scripted = refl; replied = refl; kept = refl },
      ),
      record { scripted = refl; replied = refl; kept = refl },
    ),
    record { scripted = refl; replied = refl; kept = refl },
  ),
  record { scripted = refl; replied = refl; kept = refl },
)

unhalted : halted asked_13 ≡ false
unfolding asked_13 words
unhalted = refl

-- the last lane makes Ticks, and none is wanted any more
rests : AllRest (delayed_discipline two_dual 1) (2 * berths two_dual + 1) asked_13
unfolding two_dual asked_13 delayed_words
rests zero lt = Idles refl refl
rests (suc zero) lt = Hears 1 refl
rests (suc (suc zero)) lt = Idles refl refl
rests (suc (suc (suc zero))) lt = Hears 0 refl
rests (suc (suc (suc (suc zero)))) lt = Idles refl refl
rests (suc (suc (suc (suc (suc lane))))) lt = absurd (omega (arith, lt))

-- ---- the conclusion: not all is settled, and both processes owe an answer

concludes : (all_settled two_dual asked_13 ≡ true) ⊎ ((l : ℕ) × Awaits asked_13 l)
concludes = never_stuck two_dual 1 asked_13 sound seated legal_13 unhalted rests

unsettled : all_settled two_dual asked_13 ≡ false
unfolding two_dual asked_13 words
unsettled = refl

executor_owes : Awaits asked_13 0
unfolding asked_13 words
executor_owes = record { given = refl; unended = refl; owed = refl }

worker_owes : Awaits asked_13 1
unfolding asked_13 words
worker_owes = record { given = refl; unended = refl; owed = refl }

-- ---- no branch waits for a Tick: the second action's local branch is queued, and has waited

waiting : queued two_dual asked_13 1 Local dynamic ≡ true
unfolding two_dual asked_13 dynamic words
waiting = refl

second : slice_get two_dual.actions 1 ≡ Some dynamic
unfolding two_dual plan_of dynamic single remote
second = refl

waited : has_waited two_dual 1 asked_13 1 dynamic ≡ true
waited = none_waits_unticked two_dual 1 asked_13 1 dynamic legal_13 unhalted rests second waiting

-- before the Tick it hadn't
not_yet : has_waited two_dual 1 sent_6 0 dynamic ≡ false
unfolding two_dual sent_6 dynamic delayed_words
not_yet = refl
