-- Two worker keys on the one berth of a pool: the first one's line is given up for the second.
use Rattle.std.proofs.Common.{◌≡◌, ◌<◌, ℕ, zero, suc, refl, false, Some, None, List, [], ◌∷◌, length, pos, arith}
use Rattle.std.specs.Prelude.{codes}
use Rattle.std.specs.List.{filter}
use Rattle.run_plan.specs.declared.plan.Branch.TheVariants.{Local}
use Rattle.run_plan.specs.declared.plan.PlanAction.{PlanAction}
use Rattle.exec_journal.specs.declared.call.Call.TheVariants as call
use Rattle.exec_journal.specs.declared.call.CommitEnd.TheVariants as commit
use Rattle.exec_journal.specs.declared.call.Found.TheVariants as found
use Rattle.exec_journal.specs.declared.call.HowEnded.TheVariants as end
use Rattle.exec_journal.specs.declared.call.Started.TheVariants as start
use Rattle.exec_journal.specs.declared.call.Written.TheVariants as write
use Rattle.exec_journal.specs.declared.reply.Reply.TheVariants as reply
use Rattle.exec_journal.specs.declared.reply.Why.TheVariants as why
use Rattle.exec_journal.specs.Entry.{Entry}
use Rattle.exec_journal.proofs.Parts.{answer, entry, plan_of, single, worker}
use Rattle.journal_laws.proofs.rows.Opened.{words}
use Rattle.journal_laws.specs.Invariant.{claimed}
use Rattle.core_contract.specs.Disciplines.{LegalBy}
use Rattle.placed_rules.specs.declared.pools.SharedPlan.{SharedPlan}
use Rattle.placed_rules.specs.Pools.{SoundPools, has_group}
use Rattle.placed_rules.specs.Needs.{all_lines, has_match_waiting, is_starved, may_evict, silent_for}
use Rattle.placed_rules.specs.Shared.{next_starved, shared_rule}
use Rattle.placed_rules.specs.Placed.{shared_discipline}

unfoldable pub second : PlanAction
unfolding worker
second = record {
  name = codes "b";
  outputs = codes "q" ∷ [];
  makers = [];
  local = Some 1;
  remote = None;
}

unfoldable pub one_pool : SharedPlan
unfolding plan_of worker second single
one_pool = record {
  plan = plan_of (worker ∷ second ∷ []) (single 0 ∷ single 0 ∷ []) 2;
  pools = record { groups = 0 ∷ 1 ∷ []; berths = 1 } ∷ [];
  instances = 1;
}

unfoldable shared_words : Unit {0}
unfolding words claimed all_lines has_match_waiting is_starved may_evict silent_for next_starved
shared_words = tt

unfoldable pub matched_6 : List Entry
unfolding entry answer
matched_6 =
    entry 1 (call.Answer 0 answer) (reply.Matched 0 Local 1)
    ∷ entry 1 call.Take (reply.Line 0)
    ∷ entry 0 (call.Wrote 0 (pos 0) write.Done) reply.Noted
    ∷ entry 0 call.Ask (reply.Send 0 (pos 0) 0 Local 1)
    ∷ entry 0 (call.Launched 0 start.Done) reply.Noted
    ∷ entry 0 call.Ask (reply.Launch 0 0 Local 1)
    ∷ []

unfoldable pub committed_9 : List Entry
unfolding entry matched_6
committed_9 =
    entry 0 (call.Committed 0 Local commit.Done) reply.Noted
    ∷ entry 0 (call.Claim 0 Local 1 (found.Files ((120 ∷ []) ∷ []))) reply.Granted
    ∷ entry 0 call.Ask (reply.Gather 0 (pos 0) 0 Local 1 (pos 0) false)
    ∷ matched_6

unfoldable pub given_up_12 : List Entry
unfolding entry committed_9
given_up_12 =
    entry 1 (call.Ended 0 end.End) reply.Noted
    ∷ entry 0 (call.Killed 0) reply.Noted
    ∷ entry 0 call.Ask (reply.Kill 0 why.Evicted)
    ∷ committed_9

-- ---- the pool is sound

once : (g : ℕ) → g < length one_pool.plan.groups
    → length (filter (λ pool. has_group pool g) one_pool.pools) ≡ 1
unfolding one_pool plan_of worker second single
once zero lt = refl
once (suc zero) lt = refl
once (suc (suc g)) lt = absurd (omega (arith, lt))

sound : SoundPools one_pool
unfolding one_pool plan_of worker second single
sound = record { berths = omega arith; named = refl; once = once; apart = refl }

-- ---- each of these entries is the rule's

legal_6 : LegalBy (shared_discipline one_pool) matched_6
unfolding one_pool matched_6 shared_words
legal_6 = (
  (
    (
      (
        (
          (tt, record { scripted = refl; replied = refl; kept = refl }),
          record { scripted = refl; replied = refl; kept = refl },
        ),
        record { scripted = refl; replied = refl; kept = refl },
      ),
      record { scripted = refl; replied = refl; kept = refl },
    ),
    record { scripted = refl; replied = refl; kept = refl },
  ),
  record { scripted = refl; replied = refl; kept = refl },
)

legal_12 : LegalBy (shared_discipline one_pool) given_up_12
unfolding one_pool committed_9 given_up_12 shared_words
legal_12 = (
  (
    (
      (
        (
          (legal_6, record { scripted = refl; replied = refl; kept = refl }),
          record { scripted = refl; replied = refl; kept = refl },
        ),
        record { scripted = refl; replied = refl; kept = refl },
      ),
      record { scripted = refl; replied = refl; kept = refl },
    ),
    record { scripted = refl; replied = refl; kept = refl },
  ),
  record { scripted = refl; replied = refl; kept = refl },
)

-- ---- the first key's action goes first
launches : shared_rule one_pool [] 0 call.Ask ≡ reply.Launch 0 0 Local 1
unfolding one_pool shared_words
launches = refl

-- its line isn't given up while its match waits
gathers : shared_rule one_pool matched_6 0 call.Ask ≡ reply.Gather 0 (pos 0) 0 Local 1 (pos 0) false
unfolding one_pool matched_6 shared_words
gathers = refl

-- then it is
evicts : shared_rule one_pool committed_9 0 call.Ask ≡ reply.Kill 0 why.Evicted
unfolding one_pool committed_9 shared_words
evicts = refl

-- and once it has Ended the second key has the berth
launches_second : shared_rule one_pool given_up_12 0 call.Ask ≡ reply.Launch 1 1 Local 1
unfolding one_pool given_up_12 shared_words
launches_second = refl
