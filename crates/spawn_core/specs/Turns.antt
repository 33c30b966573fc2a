-- What a call that is in its lane's script makes of the tables: for an Ask what is chosen is
-- carried out, and a Tick changes nothing.
use Rattle.std.specs.Prelude.{ℕ, ◌/◌, Bool, true}
use Rattle.run_plan.specs.declared.plan.Kind.{Kind}
use Rattle.exec_journal.specs.declared.call.Call.{Call}
use Rattle.exec_journal.specs.declared.call.Call.TheVariants as call
use Rattle.exec_journal.specs.declared.reply.Reply.{Reply}
use Rattle.core_tables.specs.declared.berth_group.BerthGroup.{BerthGroup}
use Rattle.core_tables.specs.Lanes.{allows_by}
use Rattle.core_state.specs.declared.choice.Choice.{Choice}
use Rattle.core_state.specs.declared.state.State.{State}
use Rattle.core_state.specs.Machine.{CanCarry, carried, carried_reply}
use Rattle.core_state.specs.Steps.{CanMake, made, made_reply}

-- what a lane's Ask is to do, and what its Tick is answered
pub record Orders : Type 0 where
  pub ask : Choice
  pub tick : Reply

-- what a policy orders of a lane by these tables
abbrev pub orders_of : {M : Type 0} → (M → State → ℕ → Choice) → (M → State → Reply) → M → State
    → ℕ → Orders
orders_of chosen ticked m s lane = record { ask = chosen m s (lane / 2); tick = ticked m s }

-- ---- which calls are in its script

-- a lane that makes Ticks may make one wherever it may ask
abbrev pub asked_for : Bool → Call → Call
asked_for true call.Tick = call.Ask
asked_for _ c = c

-- the lane may make the call by the tables, where the lines of its berth are of this kind
abbrev pub may_make : State → Kind → Bool → ℕ → Call → Bool
may_make s k ticks lane c = allows_by s.plan k s.lanes lane (asked_for ticks c)

-- ---- what it makes of the tables

abbrev pub turned_reply : State → ℕ → BerthGroup → Orders → Call → Reply
turned_reply s lane seat x call.Ask = carried_reply s (lane / 2) x.ask
turned_reply s lane seat x call.Tick = x.tick
turned_reply s lane seat x c = made_reply s lane seat c

abbrev pub turned : State → ℕ → BerthGroup → Orders → Call → State
turned s lane seat x call.Ask = carried s (lane / 2) x.ask
turned s lane seat x c = made s lane seat c

abbrev pub CanTurn : State → ℕ → BerthGroup → Orders → Call → Type 0
CanTurn s lane seat x call.Ask = CanCarry s (lane / 2) x.ask
CanTurn s lane seat x c = CanMake s lane seat c
