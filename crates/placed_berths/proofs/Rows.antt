-- Two worker keys on the one berth of a pool: the first one's line is given up for the second.
use Rattle.std.proofs.Common.{◌≡◌, true, false, refl, Some, None, List, [], ◌∷◌}
use Rattle.run_plan.specs.declared.plan.Branch.TheVariants.{Local}
use Rattle.exec_journal.specs.declared.call.Call.TheVariants as call
use Rattle.exec_journal.specs.declared.call.HowEnded.TheVariants as end
use Rattle.exec_journal.specs.declared.ends.Standing.TheVariants.{Open, Succeeded}
use Rattle.exec_journal.specs.declared.reply.Reply.TheVariants as reply
use Rattle.exec_journal.specs.declared.reply.Why.TheVariants as why
use Rattle.exec_journal.specs.Entry.{Entry}
use Rattle.exec_journal.specs.Entries.{attempt_of}
use Rattle.exec_journal.proofs.Parts.{entry, plan_of, single, worker}
use Rattle.journal_laws.proofs.rows.Opened.{words}
use Rattle.journal_laws.specs.Invariant.{claimed}
use Rattle.worker_pool.specs.declared.LineRow.{LineRow}
use Rattle.ready_order.specs.declared.ActionState.{ActionState}
use Rattle.core_contract.specs.Disciplines.{script_of}
use Rattle.core_contract.specs.Discipline.{Discipline}
use Rattle.core_tables.specs.declared.lanes.LaneState.{LaneState}
use Rattle.core_tables.specs.declared.lanes.Owed.TheVariants as order
use Rattle.core_tables.specs.declared.lanes.Said.TheVariants as said
use Rattle.core_tables.specs.declared.last.LastLine.{LastLine}
use Rattle.core_state.specs.declared.choice.Choice.TheVariants as choice
use Rattle.core_state.specs.declared.state.State.{State}
use Rattle.placed_rules.specs.Needs.{all_lines, has_match_waiting, is_starved, may_evict, silent_for}
use Rattle.placed_rules.specs.Pools.{usable}
use Rattle.placed_rules.specs.Shared.{next_starved}
use Rattle.placed_rules.specs.Placed.{shared_discipline}
use Rattle.placed_rules.proofs.PoolRows.{committed_9, given_up_12, matched_6, one_pool, second}
use Rattle.placed_berths.specs.Choices.{shared_choice}

-- ---- by the journal

abbrev by_pool : Discipline
by_pool = shared_discipline (usable one_pool)

unfoldable own_words : Unit {0}
unfolding words claimed all_lines has_match_waiting is_starved may_evict silent_for next_starved
    one_pool plan_of worker second single entry matched_6 committed_9 given_up_12
own_words = tt

-- it stands, as it is sound
has_berth : by_pool.seats ≡ 1
unfolding own_words
has_berth = refl

unfoldable killed : List Entry
unfolding entry committed_9
killed = entry 0 call.Ask (reply.Kill 0 why.Evicted) ∷ committed_9

gives_up : by_pool.rule committed_9 0 call.Ask ≡ reply.Kill 0 why.Evicted
unfolding own_words
gives_up = refl

says_killed : script_of by_pool killed 0 (call.Killed 0) ≡ true
unfolding own_words killed
says_killed = refl

says_ended : script_of by_pool killed 1 (call.Ended 0 end.End) ≡ true
unfolding own_words killed
says_ended = refl

launches_second : by_pool.rule given_up_12 0 call.Ask ≡ reply.Launch 1 1 Local 1
unfolding own_words
launches_second = refl

-- ---- by the tables

-- the first key's action is done, the second one's is queued
abbrev actions : List ActionState
actions = record {
  producers = [];
  local = record { group = Some 0; free = false };
  remote = record { group = None; free = true };
  granted = true;
  own = Succeeded;
} ∷ record {
  producers = [];
  local = record { group = Some 1; free = true };
  remote = record { group = None; free = true };
  granted = false;
  own = Open;
} ∷ []

-- the first key's line is idle
abbrev idle : LineRow
idle = record {
  capacity = 1;
  started = true;
  broken = false;
  ended = false;
  killed = false;
  bound = false;
  pending = 0;
}

abbrev lane : LaneState
lane = record { order = order.Nothing; said = said.Nothing; stopped = false; halted = false }

abbrev last : LastLine
last = record { attempt = Some (attempt_of 0 Local 1); taken = true; cause = None; fed = None }

unfoldable with_line : State → LineRow → State
with_line s line = record s {
  plan = one_pool.plan;
  pool = record { lines = line ∷ []; seats = Some 0 ∷ []; room = 8 };
  cancels = record { lines = record { items = [] } ∷ []; unwanted = [] };
  ready = actions;
  attempts = record { ended = []; limit = 2 };
  lanes = lane ∷ lane ∷ [];
  last = last ∷ [];
  greetings = record { spoken = true; greeted = false } ∷ [];
  matches = record { items = [] } ∷ [];
  halted = false;
}

unfoldable table_words : Unit {0}
unfolding with_line one_pool plan_of worker second single
table_words = tt

module _ (s : State) where
  evicts : shared_choice one_pool None (with_line s idle) (0 ∷ []) 0 ≡ choice.Kill 0 why.Evicted
  unfolding table_words
  evicts = refl

  -- nothing more, until it has Ended
  waits : shared_choice one_pool None (with_line s (record idle { killed = true })) (0 ∷ []) 0 ≡ choice.Idle
  unfolding table_words
  waits = refl

  launches : shared_choice one_pool None (with_line s (record idle {
    broken = true;
    ended = true;
    killed = true;
  })) (0 ∷ []) 0 ≡ choice.Launch (attempt_of 1 Local 1)
  unfolding table_words
  launches = refl

  -- a line with a request stays
  stays : shared_choice one_pool None (with_line s (record idle { pending = 1 })) (0 ∷ []) 0 ≡ choice.Idle
  unfolding table_words
  stays = refl
