-- A run of the lanes of new berths, by a core.
use Rattle.std.specs.Prelude.{◌≡◌, ◌≤◌, ◌+◌, ℕ, Bool, true, false, List, [], length, slice_get, Option, Some, None}
use Rattle.build_report.specs.declared.fault.Stage.{Stage}
use Rattle.build_report.specs.declared.fault.Stage.TheVariants as stage
use Rattle.exec_journal.specs.declared.call.Call.{Call}
use Rattle.exec_journal.specs.declared.reply.Reply.{Reply}
use Rattle.run_plan.specs.declared.plan.Speech.{Speech}
use Rattle.run_values.specs.declared.settings.Settings.{Settings}
use Rattle.lane_runs.specs.Runs.{HasRun}
use Rattle.lane_runs.specs.Seats.{SpeechesFit}
use Rattle.outside.specs.Lists.{Tells}
use Rattle.outside.specs.Told.{BerthTold, FloorTold, PlaceTold}
use Rattle.run_values.specs.Work.{IsWorkOf}
use Rattle.remote_messages.specs.declared.work.WorkAction.{WorkAction}
use Rattle.run_plan.specs.Limits.{most_actions, most_berths}
use Rattle.core_contract.specs.Discipline.{Discipline}
use Rattle.core_contract.specs.Moves.{History}
use Rattle.run_tasks.specs.declared.task.Task.{Task}
use Rattle.worker_run.specs.Seen.{Left}

-- the berth with this number, of which nothing was asked yet, and which hasn't failed
pub record IsNewBerth (number : ℕ) (berth : BerthTold) : Type 0 where
  pub of_number : berth.number ≡ number
  pub no_calls : Tells berth.log []
  pub no_faults : berth.faults ≡ 0

-- so many berths, numbered in their order from 0, each new
pub record AreNewBerths (count : ℕ) (berths : List BerthTold) : Type 0 where
  pub as_many : length berths ≡ count
  pub each : (w : ℕ) (b : BerthTold) → slice_get berths w ≡ Some b → IsNewBerth w b

-- the place of the action with this number, to which nothing was written
pub record IsNewPlace (number : ℕ) (place : PlaceTold) : Type 0 where
  pub of_number : place.number ≡ number
  pub unwritten : Tells place.log []

-- so many places, numbered in their order from 0, each new
pub record AreNewPlaces (count : ℕ) (places : List PlaceTold) : Type 0 where
  pub as_many : length places ≡ count
  pub each : (a : ℕ) (p : PlaceTold) → slice_get places a ≡ Some p → IsNewPlace a p

-- New berths and places are left, however many, and nothing else: no lane was started.
pub record IsUnused (x : Left) : Type 0 where
  pub berths : AreNewBerths (length x.berths) x.berths
  pub places : AreNewPlaces (length x.places) x.places
  pub journal : x.journal ≡ []
  pub lines : x.lines ≡ []
  pub unsaid : x.unsaid ≡ []
  pub halted : x.halted ≡ false

-- the floor has made exactly the berths and the places that are left
pub record HasMade (before after : FloorTold) (x : Left) : Type 0 where
  pub berths : after.berths ≡ before.berths + length x.berths
  pub places : after.places ≡ before.places + length x.places

-- the floor has made b berths and p places at most
pub record MakesUpTo (b p : ℕ) (before after : FloorTold) : Type 0 where
  pub berths : after.berths ≤ before.berths + b
  pub places : after.places ≤ before.places + p

-- Memory ran out while the lanes were at work: then some lane has halted.
abbrev pub is_during : Option Stage → Bool
is_during (Some stage.During) = true
is_during _ = false

-- All lanes of new berths ran by a discipline, one berth for each speech, and so many lanes beside
-- them: they have one history, and what is left is what that history says. A lane has halted exactly
-- if memory was wanted while they were at work.
pub record LanesRan (q : Discipline) (speeches : List Speech) (settings : Settings)
    (work : List WorkAction) (beside : ℕ) (fault : Option Stage) (left : Left) : Type 0 where
  pub before : List BerthTold
  pub new : AreNewBerths (length speeches) before
  pub run : HasRun q speeches settings work before beside left
  pub halted : left.halted ≡ is_during fault

-- Lanes ran, and what they left is there: memory didn't run out, or only while they were at work. It is
-- never wanted behind them.
abbrev pub WhereWhole : Option Stage → Type 0 → Type 0
WhereWhole None P = P
WhereWhole (Some stage.During) P = P
WhereWhole (Some stage.Before) P = Unit {0}
WhereWhole (Some stage.After) P = ⊥

-- No lane was started.
abbrev pub WhereLost : Option Stage → Type 0 → Type 0
WhereLost None P = Unit {0}
WhereLost (Some stage.During) P = Unit {0}
WhereLost (Some stage.Before) P = P
WhereLost (Some stage.After) P = Unit {0}

-- the settings are the task's
pub record AreSettingsOf (t : Task) (s : Settings) : Type 0 where
  pub plan : s.plan.now ≡ t.plan
  pub commands : s.commands.now ≡ t.commands.items
  pub verbose : s.verbose ≡ t.verbose

-- What lanes by a discipline ask of a task: the discipline's plan, with a command for each group; a
-- speech for each berth that is served, which is an executor's exactly if the berth is; the work of
-- each action; and no more berths and actions than there may be. Without a berth there is no action.
pub record FitsLanes (q : Discipline) (t : Task) : Type 0 where
  pub plan : q.plan ≡ t.plan
  pub commanded : length t.commands.items ≡ length t.plan.groups
  pub served : length t.speeches.items ≡ q.served
  pub seats : q.served ≤ q.seats
  pub few : q.served ≤ most_berths
  pub speeches : SpeechesFit q t.speeches.items
  pub work : IsWorkOf q.plan t.work.actions
  pub actions : length t.work.actions ≤ most_actions
  pub settled : q.served ≡ 0 → t.plan.actions ≡ []
