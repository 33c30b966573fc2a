-- One action that uses both branches, and a delay of two Ticks: the executor has it first, and the
-- worker once both have passed.
use Rattle.std.specs.Prelude.{◌≡◌, refl, true, false, List, [], ◌∷◌}
use Rattle.run_plan.specs.declared.plan.Branch.TheVariants.{Local, Remote}
use Rattle.run_plan.specs.declared.plan.Plan.{Plan}
use Rattle.exec_journal.specs.declared.call.Call.TheVariants as call
use Rattle.exec_journal.specs.declared.reply.Reply.TheVariants as reply
use Rattle.exec_journal.specs.Entry.{Entry}
use Rattle.exec_journal.proofs.Parts.{dynamic, entry, plan_of, remote, single}
use Rattle.journal_laws.proofs.rows.Opened.{words}
use Rattle.core_contract.specs.Disciplines.{LegalBy, script_of}
use Rattle.placed_rules.specs.Due.{delayed_earliest, ticks_since}
use Rattle.placed_rules.specs.Own.{delayed_rule}
use Rattle.placed_rules.specs.Placed.{delayed_discipline}

unfoldable pub plan : Plan
unfolding plan_of dynamic single remote
plan = plan_of (dynamic ∷ []) (single 1 ∷ remote ∷ []) 2

unfoldable delayed_words : Unit {0}
unfolding words delayed_earliest ticks_since
delayed_words = tt

unfoldable pub launched_1 : List Entry
unfolding entry
launched_1 = entry 2 call.Ask (reply.Launch 0 0 Remote 1) ∷ []

unfoldable pub ticked_3 : List Entry
unfolding entry launched_1
ticked_3 = entry 4 call.Tick reply.Noted ∷ entry 4 call.Tick reply.Noted ∷ launched_1

-- ---- each of these entries is the rule's

legal_3 : LegalBy (delayed_discipline plan 2) ticked_3
unfolding plan launched_1 ticked_3 delayed_words
legal_3 = (
  (
    (tt, record { scripted = refl; replied = refl; kept = refl }),
    record { scripted = refl; replied = refl; kept = refl },
  ),
  record { scripted = refl; replied = refl; kept = refl },
)

-- ---- at first the worker waits

waits : delayed_rule plan 2 launched_1 0 call.Ask ≡ reply.Idle
unfolding plan launched_1 delayed_words
waits = refl

-- then it has the action too
launches : delayed_rule plan 2 ticked_3 0 call.Ask ≡ reply.Launch 1 0 Local 1
unfolding plan launched_1 ticked_3 delayed_words
launches = refl

-- and no further Tick is noted
ticks_idly : delayed_rule plan 2 ticked_3 4 call.Tick ≡ reply.Idle
unfolding plan launched_1 ticked_3 delayed_words
ticks_idly = refl

-- ---- the lane behind the plan's berths may ask, and is given nothing

asks : script_of (delayed_discipline plan 2) ticked_3 4 call.Ask ≡ true
unfolding plan launched_1 ticked_3 delayed_words
asks = refl

given_nothing : delayed_rule plan 2 ticked_3 4 call.Ask ≡ reply.Idle
unfolding plan launched_1 ticked_3 delayed_words
given_nothing = refl

-- no other lane makes Ticks
ticks_alone : script_of (delayed_discipline plan 2) ticked_3 0 call.Tick ≡ false
unfolding plan launched_1 ticked_3 delayed_words
ticks_alone = refl
