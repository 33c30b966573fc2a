-- Two worker keys on the one berth of a pool: which of them is starved as the first one's line is
-- launched, fails, waits for an answer, is idle, and is gone.
use Rattle.std.proofs.Common.{◌≡◌, Bool, true, false, cond, refl, Some, None, [], ◌∷◌}
use Rattle.std.specs.Prelude.{codes}
use Rattle.run_plan.specs.declared.plan.Branch.TheVariants.{Local}
use Rattle.run_plan.specs.declared.plan.PlanAction.{PlanAction}
use Rattle.exec_journal.specs.declared.ends.Standing.TheVariants.{Open}
use Rattle.exec_journal.specs.Entries.{attempt_of}
use Rattle.exec_journal.proofs.Parts.{plan_of, single, worker}
use Rattle.worker_pool.specs.declared.LineRow.{LineRow}
use Rattle.core_tables.specs.declared.lanes.Owed.{Owed}
use Rattle.core_tables.specs.declared.lanes.Owed.TheVariants as order
use Rattle.core_tables.specs.declared.lanes.Said.TheVariants as said
use Rattle.core_state.specs.declared.state.State.{State}
use Rattle.placed_rules.specs.declared.pools.SharedPlan.{SharedPlan}
use Rattle.placed_rules.specs.declared.pools.SharedPool.{SharedPool}
use Rattle.shared_laws.specs.Berths.{holds, is_starved, lines_held, next_starved, some_free}

unfoldable second : PlanAction
second = record {
  name = codes "b";
  outputs = codes "q" ∷ [];
  makers = [];
  local = Some 1;
  remote = None;
}

unfoldable both : SharedPool
both = record { groups = 0 ∷ 1 ∷ []; berths = 1 }

unfoldable one_pool : SharedPlan
unfolding plan_of worker second single both
one_pool = record {
  plan = plan_of (worker ∷ second ∷ []) (single 0 ∷ single 0 ∷ []) 2;
  pools = both ∷ [];
  instances = 1;
}

-- the berth's line was launched for the first action, whose next attempt may begin where it is
-- free; so may one of the second; what isn't read is as in s
unfoldable with_line : State → Owed → LineRow → Bool → State
with_line s owed line free = record s {
  plan = one_pool.plan;
  pool = record { lines = line ∷ []; seats = Some 0 ∷ []; room = 8 };
  ready = record {
    producers = [];
    local = record { group = Some 0; free = free };
    remote = record { group = None; free = true };
    granted = false;
    own = Open;
  }
      ∷ record {
        producers = [];
        local = record { group = Some 1; free = true };
        remote = record { group = None; free = true };
        granted = false;
        own = Open;
      }
      ∷ [];
  attempts = record {
    ended = record { local = cond free 1 0; remote = 0 }
        ∷ record { local = 0; remote = 0 }
        ∷ [];
    limit = 2;
  };
  lanes = record { order = owed; said = said.Nothing; stopped = false; halted = false }
      ∷ record { order = order.Nothing; said = said.Nothing; stopped = false; halted = false }
      ∷ [];
  last = record { attempt = Some (attempt_of 0 Local 1); taken = false; cause = None; fed = None }
      ∷ [];
}

abbrev line : Bool → Bool → LineRow
line started gone = record {
  capacity = 1;
  started = started;
  broken = gone;
  ended = gone;
  killed = gone;
  bound = false;
  pending = 0;
}

-- its Launch is ordered, and the first action is bound to it
unfoldable launching : State → State
launching s = with_line s (order.Launch 0 (attempt_of 0 Local 1))
    (record (line false false) { bound = true }) false

-- it failed to launch, and the first action may begin again
unfoldable failing : State → State
failing s = with_line s order.Nothing (line false false) true

-- it is live and has a request
unfoldable busy : State → State
busy s = with_line s order.Nothing (record (line true false) { pending = 1 }) true

-- it is live with a free place
unfoldable idle : State → State
idle s = with_line s order.Nothing (line true false) true

-- it has Ended and was killed
unfoldable gone : State → State
gone s = with_line s order.Nothing (line true true) true

unfoldable shared_words : Unit {0}
unfolding with_line one_pool plan_of worker second single both launching failing busy idle gone
shared_words = tt

-- ---- which lines may still have a process, or have room

module _ (s : State) where
  holds_launching : holds (launching s) 0 ≡ true
  unfolding shared_words
  holds_launching = refl

  holds_failing : holds (failing s) 0 ≡ false
  unfolding shared_words
  holds_failing = refl

  holds_gone : holds (gone s) 0 ≡ false
  unfolding shared_words
  holds_gone = refl

  held_launching : lines_held (launching s) 0 1 ≡ 1
  unfolding shared_words
  held_launching = refl

  -- which is none of the other one's
  held_other : lines_held (launching s) 1 1 ≡ 0
  unfolding shared_words
  held_other = refl

  full_busy : some_free (busy s) 0 1 ≡ false
  unfolding shared_words
  full_busy = refl

  free_idle : some_free (idle s) 0 1 ≡ true
  unfolding shared_words
  free_idle = refl

  -- ---- what is launched

  -- nothing of the first group is queued, and the second one has no line
  next_launching : next_starved one_pool (launching s) both ≡ Some (attempt_of 1 Local 1)
  unfolding shared_words
  next_launching = refl

  -- both groups are starved: the least action begins its second attempt
  next_failing : next_starved one_pool (failing s) both ≡ Some (attempt_of 0 Local 2)
  unfolding shared_words
  next_failing = refl

  -- ---- which group is starved

  -- a group with as many lines as it may have isn't
  first_busy : is_starved one_pool (busy s) both 0 ≡ false
  unfolding shared_words
  first_busy = refl

  second_busy : is_starved one_pool (busy s) both 1 ≡ true
  unfolding shared_words
  second_busy = refl

  -- nor is one with a free place
  first_idle : is_starved one_pool (idle s) both 0 ≡ false
  unfolding shared_words
  first_idle = refl

  first_gone : is_starved one_pool (gone s) both 0 ≡ true
  unfolding shared_words
  first_gone = refl
