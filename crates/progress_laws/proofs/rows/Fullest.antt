-- One action on one executor, with one attempt: its journal has as many entries as the law allows.
-- With a delay the tap lane beside the one that makes Ticks counts too, or else the law fails.
use Rattle.std.proofs.Common.{◌≡◌, ◌+◌, ◌*◌, refl, true, false, not, Some, None, List, [], ◌∷◌, length, pos, arith}
use Rattle.std.specs.Prelude.{codes, count_by}
use Rattle.run_plan.specs.declared.plan.Branch.TheVariants.{Remote}
use Rattle.run_plan.specs.declared.plan.Plan.{Plan}
use Rattle.run_plan.specs.Groups.{berths}
use Rattle.run_plan.specs.Sound.{Sound}
use Rattle.exec_journal.specs.declared.call.Call.TheVariants as call
use Rattle.exec_journal.specs.declared.call.CommitEnd.TheVariants as commit
use Rattle.exec_journal.specs.declared.call.Found.TheVariants as found
use Rattle.exec_journal.specs.declared.call.HowEnded.TheVariants as end
use Rattle.exec_journal.specs.declared.call.Started.TheVariants as start
use Rattle.exec_journal.specs.declared.call.Written.TheVariants as write
use Rattle.exec_journal.specs.declared.reply.Reply.TheVariants as reply
use Rattle.exec_journal.specs.declared.reply.Why.TheVariants as why
use Rattle.exec_journal.specs.Entry.{Entry}
use Rattle.exec_journal.proofs.Parts.{entry, greeting, plan_of, remote, with_file}
use Rattle.journal_laws.specs.IsLegal.{is_legal}
use Rattle.journal_laws.proofs.Decided.{legal_by}
use Rattle.journal_laws.proofs.rows.Opened.{words}
use Rattle.discipline_laws.proofs.OwnDiscipline.{legal_own}
use Rattle.core_contract.specs.Disciplines.{LegalBy, own_discipline}
use Rattle.placed_rules.specs.Placed.{delayed_discipline}
use Rattle.placed_rules.specs.Own.{delayed_seats}
use Rattle.progress_laws.specs.Few.{CallsAreFew, DelayedCallsAreFew, is_noise, most_tries}
use Rattle.progress_laws.proofs.counts.Disciplines.{delayed_few, own_few}
use Rattle.progress_laws.proofs.rows.Delay.{delayed_words}

-- ---- as many as the law allows: twelve, one and two

unfoldable pub one_executor : Plan
unfolding plan_of remote
one_executor =
    plan_of (record {
      name = codes "a";
      outputs = codes "o" ∷ [];
      makers = [];
      local = None;
      remote =
          Some 0;
    } ∷ [])
    (remote ∷ []) 1

unfoldable pub left_15 : List Entry
unfolding entry
left_15 =
    entry 1 call.Take reply.Stop
    ∷ entry 0 call.Ask reply.Stop
    ∷ entry 1 (call.Ended 0 end.End) reply.Noted
    ∷ entry 0 (call.Killed 0) reply.Noted
    ∷ entry 0 call.Ask (reply.Kill 0 why.Quit)
    ∷ entry 0 (call.Committed 0 Remote commit.Done) reply.Noted
    ∷ entry 0 (call.Claim 0 Remote 1 (found.Files ((120 ∷ []) ∷ []))) reply.Granted
    ∷ entry 0 call.Ask (reply.Gather 0 (pos 1) 0 Remote 1 (pos 0) false)
    ∷ entry 1 (call.Answer 0 with_file) (reply.Matched 0 Remote 1)
    ∷ entry 1 (call.Answer 0 greeting) reply.Greeted
    ∷ entry 1 call.Take (reply.Line 0)
    ∷ entry 0 (call.Wrote 0 (pos 1) write.Done) reply.Noted
    ∷ entry 0 call.Ask (reply.Send 0 (pos 1) 0 Remote 1)
    ∷ entry 0 (call.Launched 0 start.Done) reply.Noted
    ∷ entry 0 call.Ask (reply.Launch 0 0 Remote 1)
    ∷ []

executor_sound : Sound one_executor
unfolding one_executor plan_of remote
executor_sound = record {
  least = omega arith;
  most = omega arith;
  actions = omega arith;
  seats = omega arith;
  groups = omega arith;
  each_group = refl;
  each_action = refl;
}

left_legal : is_legal one_executor left_15 ≡ true
unfolding one_executor left_15 words
left_legal = refl

legal : LegalBy (own_discipline one_executor) left_15
legal = legal_own one_executor left_15 (legal_by one_executor left_15 left_legal)

concludes : CallsAreFew one_executor (2 * berths one_executor) left_15
concludes = own_few one_executor left_15 executor_sound legal

all_are_made : count_by (λ e. not (is_noise e.reply)) left_15
    ≡ 12 * most_tries one_executor + length one_executor.actions + 2 * berths one_executor
unfolding one_executor left_15 words
all_are_made = refl

-- ---- a plan of no actions, with a delay: both lanes behind its berths are told to stop

unfoldable pub nothing : Plan
unfolding plan_of
nothing = plan_of [] [] 1

unfoldable pub stopped_2 : List Entry
unfolding entry
stopped_2 = entry 1 call.Take reply.Stop ∷ entry 0 call.Ask reply.Stop ∷ []

nothing_sound : Sound nothing
unfolding nothing plan_of
nothing_sound = record {
  least = omega arith;
  most = omega arith;
  actions = omega arith;
  seats = omega arith;
  groups = omega arith;
  each_group = refl;
  each_action = refl;
}

both_legal : LegalBy (delayed_discipline nothing 1) stopped_2
unfolding nothing stopped_2 delayed_words
both_legal = (
  (tt, record { scripted = refl; replied = refl; kept = refl }),
  record { scripted = refl; replied = refl; kept = refl },
)

both_count : DelayedCallsAreFew nothing 1 (2 * delayed_seats nothing) stopped_2
both_count = delayed_few nothing 1 stopped_2 nothing_sound both_legal

-- with two lanes for each berth, and behind the berths only the one that makes Ticks, the law fails
one_is_too_few : DelayedCallsAreFew nothing 1 (2 * berths nothing + 1) stopped_2 → ⊥
unfolding nothing stopped_2 delayed_words
one_is_too_few h = omega (arith, h)
