-- A discipline of scheduling: what decides every reply of a core.
use Rattle.std.specs.Prelude.{ℕ, ◌*◌, Bool, List, [], length, slice_get, unwrap_or, option_map}
use Rattle.run_plan.specs.declared.plan.Kind.{Kind}
use Rattle.run_plan.specs.declared.plan.Maker.{Maker}
use Rattle.run_plan.specs.declared.plan.Plan.{Plan}
use Rattle.exec_journal.specs.declared.call.Call.{Call}
use Rattle.exec_journal.specs.Entry.{Entry}
use Rattle.exec_journal.specs.declared.reply.Reply.{Reply}

pub record Discipline : Type 0 where
  -- the actions, and the groups that run their branches
  pub plan : Plan
  -- the number of berths, two lanes each
  pub seats : ℕ
  -- how many of them, the first ones, are served by a proxy lane and a tap lane; the lanes of a
  -- berth behind them start no process
  pub served : ℕ
  -- the kind of the lines of each berth
  pub kinds : ℕ → Kind
  -- the lanes that make Ticks, each of which is a berth's proxy lane
  pub ticks : ℕ → Bool
  -- the reply to each call in a script
  pub rule : List Entry → ℕ → Call → Reply

-- the most lines that may be ordered: one for each attempt of either branch of each action
abbrev pub line_room : Discipline → ℕ
line_room q = 2 * length q.plan.actions * q.plan.limit

-- the paths of an action's outputs
abbrev pub outputs_in : Plan → ℕ → List (List ℕ)
outputs_in p a = unwrap_or (option_map (λ x. x.outputs) (slice_get p.actions a)) []

-- the made inputs of an action
abbrev pub makers_in : Plan → ℕ → List Maker
makers_in p a = unwrap_or (option_map (λ x. x.makers) (slice_get p.actions a)) []
