-- Three worker keys on the two berths of a pool: which of two lines is given up for the third key.
use Rattle.std.proofs.Common.{◌≡◌, ℕ, Bool, true, false, refl, Some, None, List, [], ◌∷◌, pos}
use Rattle.std.specs.Prelude.{codes}
use Rattle.run_plan.specs.declared.plan.Branch.TheVariants.{Local}
use Rattle.run_plan.specs.declared.plan.PlanAction.{PlanAction}
use Rattle.exec_journal.specs.declared.ends.Standing.TheVariants.{Open}
use Rattle.exec_journal.specs.Entries.{attempt_of}
use Rattle.exec_journal.proofs.Parts.{plan_of, single}
use Rattle.worker_pool.specs.declared.LineRow.{LineRow}
use Rattle.ready_order.specs.declared.ActionState.{ActionState}
use Rattle.core_tables.specs.declared.lanes.LaneState.{LaneState}
use Rattle.core_tables.specs.declared.lanes.Owed.{Owed}
use Rattle.core_tables.specs.declared.lanes.Owed.TheVariants as order
use Rattle.core_tables.specs.declared.lanes.Said.TheVariants as said
use Rattle.core_tables.specs.declared.last.LastLine.{LastLine}
use Rattle.core_tables.specs.declared.matches.Match.{Match}
use Rattle.core_state.specs.declared.state.State.{State}
use Rattle.placed_rules.specs.declared.pools.SharedPlan.{SharedPlan}
use Rattle.placed_rules.specs.declared.pools.SharedPool.{SharedPool}
use Rattle.shared_laws.specs.Berths.{may_evict, rests}

-- an action of a worker key
abbrev work : ℕ → PlanAction
work g = record {
  name = codes "a";
  outputs = codes "o" ∷ [];
  makers = [];
  local = Some g;
  remote = None;
}

unfoldable three : SharedPool
three = record { groups = 0 ∷ 1 ∷ 2 ∷ []; berths = 2 }

unfoldable two_berths : SharedPlan
unfolding plan_of single three
two_berths = record {
  plan = plan_of (work 0 ∷ work 1 ∷ work 2 ∷ []) (single 0 ∷ single 0 ∷ single 0 ∷ []) 2;
  pools = three ∷ [];
  instances = 1;
}

-- a branch of the group that may begin, or may not
abbrev branch : ℕ → Bool → ActionState
branch g free = record {
  producers = [];
  local = record { group = Some g; free = free };
  remote = record { group = None; free = true };
  granted = false;
  own = Open;
}

abbrev lane : Owed → LaneState
lane owed = record { order = owed; said = said.Nothing; stopped = false; halted = false }

abbrev last : ℕ → LastLine
last a = record { attempt = Some (attempt_of a Local 1); taken = true; cause = None; fed = None }

-- a line that is live and has nothing to do
abbrev idle : LineRow
idle = record {
  capacity = 1;
  started = true;
  broken = false;
  ended = false;
  killed = false;
  bound = false;
  pending = 0;
}

abbrev answer : Match
answer = record {
  line = 1;
  number = pos 0;
  attempt = attempt_of 1 Local 1;
  exit = pos 0;
  refused = false;
  spent = false;
}

-- the lines of the first two keys: the first one's is idle, the second one's as it is said, with
-- its matches and what its proxy lane owes; the third key's action is queued
unfoldable with_second : State → LineRow → List Match → Owed → State
with_second s line matches owed = record s {
  plan = two_berths.plan;
  pool = record { lines = idle ∷ line ∷ []; seats = Some 0 ∷ Some 1 ∷ []; room = 12 };
  ready = branch 0 false ∷ branch 1 false ∷ branch 2 true ∷ [];
  lanes = lane order.Nothing ∷ lane order.Nothing ∷ lane owed ∷ lane order.Nothing ∷ [];
  last = last 0 ∷ last 1 ∷ [];
  matches = record { items = [] } ∷ record { items = matches } ∷ [];
}

unfoldable shared_words : Unit {0}
unfolding with_second two_berths plan_of single three
shared_words = tt

module _ (s : State) where
  -- ---- both are idle: the one that was silent for longer goes

  abbrev both : State
  both = with_second s idle [] order.Nothing

  rests_both : rests both 1 ≡ true
  unfolding shared_words
  rests_both = refl

  first_silent : may_evict two_berths both (0 ∷ 1 ∷ []) 0 three ≡ true
  unfolding shared_words
  first_silent = refl

  first_spoke : may_evict two_berths both (1 ∷ 0 ∷ []) 0 three ≡ false
  unfolding shared_words
  first_spoke = refl

  second_silent : may_evict two_berths both (1 ∷ 0 ∷ []) 1 three ≡ true
  unfolding shared_words
  second_silent = refl

  -- ---- the second has a request, or a match that waits: the first goes, though it spoke last

  busy_second : may_evict two_berths (with_second s (record idle { pending = 1 }) []
      order.Nothing) (1 ∷ 0 ∷ []) 0 three ≡ true
  unfolding shared_words
  busy_second = refl

  matched_second : may_evict two_berths (with_second s idle (answer ∷ []) order.Nothing)
      (1 ∷ 0 ∷ []) 0 three ≡ true
  unfolding shared_words
  matched_second = refl

  matched_stays : rests (with_second s idle (answer ∷ []) order.Nothing) 1 ≡ false
  unfolding shared_words
  matched_stays = refl

  -- so it is while its proxy lane owes the Claim
  gathered_stays : rests (with_second s idle (record answer { spent = true } ∷ [])
      (order.Gather 1 (pos 0) (attempt_of 1 Local 1) (pos 0) false)) 1 ≡ false
  unfolding shared_words
  gathered_stays = refl

  spent_rests : rests (with_second s idle (record answer { spent = true } ∷ []) order.Nothing) 1
      ≡ true
  unfolding shared_words
  spent_rests = refl

  -- ---- no other goes while one that was killed hasn't Ended, or where a berth is vacant

  killed_second : may_evict two_berths (with_second s (record idle { killed = true }) []
      order.Nothing) (0 ∷ 1 ∷ []) 0 three ≡ false
  unfolding shared_words
  killed_second = refl

  gone_second : may_evict two_berths (with_second s
      (record idle { killed = true; broken = true; ended = true }) [] order.Nothing)
      (0 ∷ 1 ∷ []) 0 three ≡ false
  unfolding shared_words
  gone_second = refl
