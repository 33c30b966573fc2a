-- When the state stands for a journal, whose newest entry stands first.
use Rattle.std.specs.Prelude.{◌≡◌, ℕ, ◌/◌, ◌<◌, ◌^◌, true, Some, List, [], ◌∷◌, slice_get}
use Rattle.run_plan.specs.declared.plan.Plan.{Plan}
use Rattle.run_plan.specs.Groups.{has_cancellation}
use Rattle.run_plan.specs.Sound.{Sound}
use Rattle.exec_journal.specs.declared.call.Call.{Call}
use Rattle.exec_journal.specs.Entry.{Entry}
use Rattle.exec_journal.specs.Lawful.{Lawful, in_script}
use Rattle.exec_journal.specs.Seated.{group_on, line_kind}
use Rattle.exec_journal.specs.Words.{halted, last_line}
use Rattle.worker_pool.specs.Stands as pools
use Rattle.request_table.specs.Stands as tables
use Rattle.cancel_rules.specs.Stands as marks
use Rattle.ready_order.specs.Stands as queues
use Rattle.race_core.specs.Stands as races
use Rattle.retry_rules.specs.Stands as counts
use Rattle.core_state.specs.declared.state.State.{State}
use Rattle.core_tables.specs.declared.berth_group.BerthGroup.{BerthGroup}
use Rattle.core_tables.specs.Greetings.{greeting_in}
use Rattle.core_tables.specs.Lanes.{lane_in}
use Rattle.core_tables.specs.Last.{last_in}
use Rattle.core_tables.specs.Matches.{matches_in}

-- each entry is of a lane of one of so many berths
abbrev pub AreSeated : ℕ → List Entry → Type 0
AreSeated seats [] = Unit {0}
AreSeated seats (e ∷ j) = AreSeated seats j × (e.lane / 2 < seats)

-- the plan is the state's and sound, the journal is lawful, its lanes are those of so many berths,
-- and each table stands for it: whatever is ordered next, as long as it is lawful
pub record Stands (p : Plan) (seats : ℕ) (s : State) (j : List Entry) : Type 0 where
  pub plan : s.plan ≡ p
  pub sound : Sound p
  pub lawful : Lawful p j
  pub seated : AreSeated seats j
  pub few : seats < 2 ^ 31
  pub pool : pools.Stands p seats s.pool j
  pub requests : tables.Stands p s.requests j
  pub cancels : marks.Stands p s.cancels j
  pub ready : queues.Stands p s.ready j
  pub race : races.Stands p s.race j
  pub attempts : counts.Stands p s.attempts j
  pub lanes : (n : ℕ) → slice_get s.lanes n ≡ lane_in seats j n
  pub last : (w : ℕ) → slice_get s.last w ≡ last_in seats j w
  pub greetings : (w : ℕ) → slice_get s.greetings w ≡ greeting_in seats j w
  pub matches : (w : ℕ) → slice_get s.matches w ≡ matches_in seats j w
  pub halted : s.halted ≡ halted j

-- the lane is one of those, and the call is in its script
pub record MayCall (p : Plan) (seats : ℕ) (j : List Entry) (lane : ℕ) (c : Call) : Type 0 where
  pub berth : lane / 2 < seats
  pub scripted : in_script p j lane c ≡ true

-- the seat tells the kind and the group of the berth's last line, where there is one, and whether
-- that group has cancellation
pub record SeatFits (p : Plan) (j : List Entry) (w : ℕ) (seat : BerthGroup) : Type 0 where
  pub kind : (l : ℕ) → last_line j w ≡ Some l → line_kind p j l ≡ seat.kind
  pub group : (l : ℕ) → last_line j w ≡ Some l → group_on p j l ≡ Some seat.group
  pub cancel : has_cancellation p seat.group ≡ seat.cancel
