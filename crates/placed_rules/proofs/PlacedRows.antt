-- Two worker keys on the one berth of a pool, the first of which an executor may run too, and a delay
-- of one Tick: the second key has the berth first, and once a Tick has come, the first one needs it.
use Rattle.std.specs.Prelude.{◌≡◌, refl, true, false, Some, None, List, [], ◌∷◌, codes}
use Rattle.run_plan.specs.declared.plan.Branch.TheVariants.{Local, Remote}
use Rattle.run_plan.specs.declared.plan.PlanAction.{PlanAction}
use Rattle.exec_journal.specs.declared.call.Call.TheVariants as call
use Rattle.exec_journal.specs.declared.reply.Reply.TheVariants as reply
use Rattle.exec_journal.specs.Entry.{Entry}
use Rattle.exec_journal.proofs.Parts.{entry, plan_of, remote, single}
use Rattle.journal_laws.proofs.rows.Opened.{words}
use Rattle.core_contract.specs.Disciplines.{LegalBy, script_of}
use Rattle.placed_rules.specs.declared.pools.SharedPlan.{SharedPlan}
use Rattle.placed_rules.specs.declared.pools.SharedPool.{SharedPool}
use Rattle.placed_rules.specs.Due.{delayed_earliest, ticks_since}
use Rattle.placed_rules.specs.Needs.{all_lines, is_starved, may_evict, has_match_waiting, silent_for}
use Rattle.placed_rules.specs.Shared.{next_starved, pooled_rule}
use Rattle.placed_rules.specs.Placed.{pooled_discipline}
use Rattle.journal_laws.specs.Invariant.{claimed}

unfoldable raced : PlanAction
raced = record {
  name = codes "a";
  outputs = codes "o" ∷ [];
  makers = [];
  local = Some 0;
  remote = Some 2;
}

unfoldable plain : PlanAction
plain = record {
  name = codes "b";
  outputs = codes "q" ∷ [];
  makers = [];
  local = Some 1;
  remote = None;
}

unfoldable workers : SharedPool
workers = record { groups = 0 ∷ 1 ∷ []; berths = 1 }

unfoldable executors : SharedPool
executors = record { groups = 2 ∷ []; berths = 1 }

unfoldable two_pools : SharedPlan
unfolding plan_of raced plain single remote workers executors
two_pools = record {
  plan = plan_of (raced ∷ plain ∷ []) (single 0 ∷ single 0 ∷ remote ∷ []) 2;
  pools = workers ∷ executors ∷ [];
  instances = 1;
}

unfoldable placed_words : Unit {0}
unfolding words claimed all_lines has_match_waiting is_starved may_evict silent_for next_starved delayed_earliest ticks_since
placed_words = tt

unfoldable launched_1 : List Entry
unfolding entry
launched_1 = entry 2 call.Ask (reply.Launch 0 0 Remote 1) ∷ []

unfoldable ticked_2 : List Entry
unfolding entry launched_1
ticked_2 = entry 4 call.Tick reply.Noted ∷ launched_1

-- ---- each of these entries is the rule's

legal_2 : LegalBy (pooled_discipline two_pools (Some 1)) ticked_2
unfolding two_pools launched_1 ticked_2 placed_words
legal_2 = (
  (tt, record { scripted = refl; replied = refl; kept = refl }),
  record { scripted = refl; replied = refl; kept = refl },
)

-- ---- a branch that is held back makes no group starved

held_back : is_starved two_pools (Some 1) [] workers 0 ≡ false
unfolding two_pools placed_words
held_back = refl

-- so the second key has the berth
second_first : pooled_rule two_pools (Some 1) [] 0 call.Ask ≡ reply.Launch 0 1 Local 1
unfolding two_pools placed_words
second_first = refl

-- which the first one would have where no branch waits
first_first : pooled_rule two_pools None [] 0 call.Ask ≡ reply.Launch 0 0 Local 1
unfolding two_pools placed_words
first_first = refl

-- ---- once a Tick has come, it needs the berth

needs_it : is_starved two_pools (Some 1) ticked_2 workers 0 ≡ true
unfolding two_pools launched_1 ticked_2 placed_words
needs_it = refl

has_it : pooled_rule two_pools (Some 1) ticked_2 0 call.Ask ≡ reply.Launch 1 0 Local 1
unfolding two_pools launched_1 ticked_2 placed_words
has_it = refl

-- and no further Tick is noted
ticks_idly : pooled_rule two_pools (Some 1) ticked_2 4 call.Tick ≡ reply.Idle
unfolding two_pools launched_1 ticked_2 placed_words
ticks_idly = refl

-- ---- the berth behind those of the pools is given nothing, and no other lane makes Ticks

given_nothing : pooled_rule two_pools (Some 1) ticked_2 4 call.Ask ≡ reply.Idle
unfolding two_pools launched_1 ticked_2 placed_words
given_nothing = refl

ticks_alone : script_of (pooled_discipline two_pools (Some 1)) ticked_2 0 call.Tick ≡ false
unfolding two_pools launched_1 ticked_2 placed_words
ticks_alone = refl

none_ticks : script_of (pooled_discipline two_pools None) [] 4 call.Tick ≡ false
unfolding two_pools placed_words
none_ticks = refl
