-- One action that uses both branches, a worker's berth and an executor's, and a delay of two Ticks:
-- the executor has the action first, and the worker once both Ticks have come.
use Rattle.std.specs.Prelude.{◌≡◌, ◌*◌, ℕ, refl, true, false, Some, None, List, [], ◌∷◌, count_by, map}
use Rattle.run_plan.specs.declared.plan.Branch.TheVariants.{Local, Remote}
use Rattle.run_plan.specs.declared.plan.Plan.{Plan}
use Rattle.exec_journal.specs.declared.call.Call.{Call}
use Rattle.exec_journal.specs.declared.call.Call.TheVariants as call
use Rattle.exec_journal.specs.declared.reply.Reply.{Reply}
use Rattle.exec_journal.specs.declared.reply.Reply.TheVariants as reply
use Rattle.exec_journal.specs.Entries.{attempt_of}
use Rattle.exec_journal.specs.Entry.{Entry}
use Rattle.exec_journal.proofs.Parts.{dynamic, entry, plan_of, remote, single}
use Rattle.journal_laws.proofs.rows.Opened.{words}
use Rattle.ready_order.specs.Queue.{new_states, with_taken}
use Rattle.retry_rules.specs.Counts.{new_facts}
use Rattle.core_state.specs.declared.state.State.{State}
use Rattle.placed_rules.specs.Bounds.{is_noted_tick}
use Rattle.placed_rules.specs.Placed.{delayed_discipline}
use Rattle.placed_rules.specs.Due.{delayed_earliest, is_dual, ticks_since}
use Rattle.placed_berths.specs.Due.{first_in, first_mark, last_of, some_waits}
use Rattle.placed_berths.specs.Counts.{Facts, capped, more}

unfoldable plan : Plan
unfolding plan_of dynamic single remote
plan = plan_of (dynamic ∷ []) (single 1 ∷ remote ∷ []) 2

unfoldable delayed_words : Unit {0}
unfolding words delayed_earliest ticks_since
delayed_words = tt

abbrev answer : List Entry → ℕ → Call → Reply
answer j lane c = (delayed_discipline plan 2).rule j lane c

unfoldable launched : List Entry
unfolding entry
launched = entry 2 call.Ask (reply.Launch 0 0 Remote 1) ∷ []

unfoldable ticked_once : List Entry
unfolding entry launched
ticked_once = entry 4 call.Tick reply.Noted ∷ launched

unfoldable ticked_twice : List Entry
unfolding entry launched ticked_once
ticked_twice = entry 4 call.Tick reply.Noted ∷ ticked_once

-- ---- what lanes are answered

local_waits : answer [] 0 call.Ask ≡ reply.Idle
unfolding plan delayed_words
local_waits = refl

remote_goes : answer [] 2 call.Ask ≡ reply.Launch 0 0 Remote 1
unfolding plan delayed_words
remote_goes = refl

first_tick : answer launched 4 call.Tick ≡ reply.Noted
unfolding plan launched delayed_words
first_tick = refl

still_waits : answer ticked_once 0 call.Ask ≡ reply.Idle
unfolding plan launched ticked_once delayed_words
still_waits = refl

second_tick : answer ticked_once 4 call.Tick ≡ reply.Noted
unfolding plan launched ticked_once delayed_words
second_tick = refl

local_goes : answer ticked_twice 0 call.Ask ≡ reply.Launch 1 0 Local 1
unfolding plan launched ticked_once ticked_twice delayed_words
local_goes = refl

third_tick : answer ticked_twice 4 call.Tick ≡ reply.Idle
unfolding plan launched ticked_once ticked_twice delayed_words
third_tick = refl

-- ---- what the tables say, once the executor has the action

abbrev counted : ℕ → Facts
counted n = record { ticks = 2; counts = n ∷ []; marks = 1 ∷ [] }

module _ (s : State) where
  abbrev here : State
  here = record s {
    plan = plan;
    ready = with_taken (new_states plan) 0 Remote;
    attempts = new_facts plan;
  }

  none_first : first_in (counted 1) here 0 ≡ None
  unfolding plan delayed_words
  none_first = refl

  local_first : first_in (counted 2) here 0 ≡ Some (0, Local)
  unfolding plan delayed_words
  local_first = refl

  one_waits : some_waits (counted 1) here ≡ true
  unfolding plan delayed_words
  one_waits = refl

  none_waits : some_waits (counted 2) here ≡ false
  unfolding plan delayed_words
  none_waits = refl

-- ---- a Tick counts where the inputs are made, up to the delay

counts_one : more true 2 1 ≡ 2
counts_one = refl

counts_none : more false 2 0 ≡ 0
counts_none = refl

counts_no_more : more true 2 2 ≡ 2
counts_no_more = refl

capped_at_two : capped 2 5 ≡ 2
capped_at_two = refl

-- ---- how many Ticks are noted

two_are_noted : count_by is_noted_tick ticked_twice ≡ 2
unfolding launched ticked_once ticked_twice entry
two_are_noted = refl

two_are_the_most : count_by is_dual plan.actions * 2 ≡ 2
unfolding plan
two_are_the_most = refl

-- ---- which action is known to wait

waits_at_first : map (first_mark plan 2) plan.actions ≡ 0 ∷ []
unfolding plan
waits_at_first = refl

waits_for_nothing : map (first_mark plan 0) plan.actions ≡ 1 ∷ []
unfolding plan
waits_for_nothing = refl

last_attempt : last_of 2 (Some (attempt_of 0 Remote 2)) ≡ Some 0
last_attempt = refl

earlier_attempt : last_of 2 (Some (attempt_of 0 Remote 1)) ≡ None
earlier_attempt = refl

other_branch : last_of 2 (Some (attempt_of 0 Local 2)) ≡ None
other_branch = refl
