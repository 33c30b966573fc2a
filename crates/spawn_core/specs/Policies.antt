-- What a policy goes by, and what is asked of what it says of a berth.
use Rattle.std.specs.Prelude.{◌≡◌, ◌<◌, ◌/◌, ◌^◌, ℕ, true, List, Option, Some, length}
use Rattle.run_plan.specs.Groups.{berths, is_remote}
use Rattle.exec_journal.specs.declared.call.Call.TheVariants as call
use Rattle.exec_journal.specs.Entry.{Entry}
use Rattle.exec_journal.specs.declared.reply.Reply.{Reply}
use Rattle.core_tables.specs.declared.berth_group.BerthGroup.{BerthGroup}
use Rattle.core_state.specs.declared.choice.Choice.{Choice}
use Rattle.core_state.specs.declared.state.State.{State}
use Rattle.core_state.specs.Machine.{carried_reply}
use Rattle.core_contract.specs.Disciplines.{IsDiscipline, LegalBy, script_of}
use Rattle.core_contract.specs.Discipline.{Discipline}
use Rattle.core_laws.specs.Stands.{SeatFits, Stands}
use Rattle.earliest_first.specs.Choices.{ReadsOwn}

-- the journal is legal by the discipline, and the state stands for it
pub record StandsBy (q : Discipline) (s : State) (j : List Entry) : Type 0 where
  pub tables : Stands q.plan q.seats s j
  pub legal : LegalBy q j

-- what is said of the berth is so: of the last line there its kind, its group and whether that has
-- cancellation; and it is an executor's exactly where the discipline has one
pub record SaysSeat (q : Discipline) (j : List Entry) (w : ℕ) (said : Option BerthGroup) : Type 0 where
  pub seat : BerthGroup
  pub is : said ≡ Some seat
  pub fits : SeatFits q.plan j w seat
  pub remote : is_remote seat.kind ≡ is_remote (q.kinds w)

-- what a policy says of each berth is so; and what it chooses on each, and what it answers a Tick,
-- is what its discipline orders
pub record Serves (q : Discipline) (s : State) (j : List Entry) (seated : ℕ → Option BerthGroup)
    (chosen : ℕ → Choice) (ticked : Reply) : Type 0 where
  pub is : IsDiscipline q
  pub seats : (w : ℕ) → w < q.seats → SaysSeat q j w (seated w)
  pub choices : (lane : ℕ) → script_of q j lane call.Ask ≡ true
      → carried_reply s (lane / 2) (chosen (lane / 2)) ≡ q.rule j lane call.Ask
  pub ticks : (lane : ℕ) → q.ticks lane ≡ true → ticked ≡ q.rule j lane call.Tick

-- ---- of berths that groups have of their own

-- what is read to choose on any berth of the plan is there
pub record ReadsEach (s : State) : Type 0 where
  pub groups : length s.plan.groups < 2 ^ 32
  pub each : (w : ℕ) → w < berths s.plan → ReadsOwn s w
