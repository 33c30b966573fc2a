-- What is said of a run that is told. Each is said of the task that was run and of what is left of
-- it, and all of them of the one history that its journal is.
use Rattle.std.specs.Prelude.{◌≡◌, ◌*◌, true, false, ℕ, List, [], length, reverse, slice_get, Option, Some, None, IfSome}
use Rattle.std.specs.List.{list_all}
use Rattle.build_report.specs.Report.{is_success}
use Rattle.exec_journal.specs.Clean.{Clean}
use Rattle.exec_journal.specs.Ends.{ends_of}
use Rattle.exec_journal.specs.Kept.{Kept}
use Rattle.exec_journal.specs.Legal.{Legal}
use Rattle.exec_journal.specs.Paired.{Paired}
use Rattle.exec_journal.specs.Race.{Race}
use Rattle.exec_journal.specs.Entry.{Entry}
use Rattle.core_contract.specs.Discipline.{Discipline}
use Rattle.core_contract.specs.Disciplines.{LegalBy, own_discipline}
use Rattle.core_contract.specs.Ruled.{answer_after}
use Rattle.journal_laws.specs.Finished.{Finished}
use Rattle.run_values.specs.declared.settings.Settings.{Settings}
use Rattle.proxy_words.specs.Lines.{Returned, IsKilled}
use Rattle.lane_runs.specs.Layout.{has_halt}
use Rattle.lane_runs.specs.Runs.{Outs, Pipes, Rooms, Stops}
use Rattle.outside.specs.Causes.{Counts}
use Rattle.outside.specs.Told.{BerthTold, FloorTold, SameFiles}
use Rattle.run_loading.specs.Reads.{IsFloorFailed}
use Rattle.progress_laws.specs.Few.{CallsAreFew}
use Rattle.progress_laws.specs.Moments.{NeverStuck}
use Rattle.run_plan.specs.Groups.{berths}
use Rattle.run_plan.specs.Sound.{Sound}
use Rattle.run_tasks.specs.declared.task.Task.{Task}
use Rattle.core_contract.specs.Duties.{proxy_lane}
use Rattle.core_contract.specs.Moves.{History}
use Rattle.seat_desk.specs.History.{calls_by}
use Rattle.tool_words.specs.declared.options.Options.{Options}
use Rattle.worker_run.specs.Ends.{HasCourse, LeavesNew, MadeAll, TellsTask, is_halted, status_by}
use Rattle.worker_run.specs.Histories.{history_of}
use Rattle.worker_run.specs.Lanes.{AreNewBerths, AreSettingsOf}
use Rattle.worker_run.specs.Seen.{EndedTold, Left}

-- the task that was run, and what is left
abbrev pub OnRun : EndedTold → (Task → Left → Type 0) → Type 0
OnRun end P = IfSome end.task (λ t. P t end.left)

-- what every call of the run asks of its plan
abbrev pub IsSound : Task → Left → Type 0
IsSound t x = Sound t.plan

-- ---- by whose rule

-- the rules of berths that the plan's groups have of their own
abbrev pub own_rules : Task → Discipline
own_rules t = own_discipline t.plan

-- Each order was due when it was given, and at most one line of a berth is live.
abbrev pub own_kept : Task → List Entry → Type 0
own_kept t = Kept t.plan

-- ---- the journal

-- with its newest entry first, as its rules read it
abbrev pub newest_first : Left → List Entry
newest_first x = reverse x.journal

-- the rules are of the task's plan, and a berth is served for each speech
pub record AreRulesOf (rules : Task → Discipline) (t : Task) (x : Left) : Type 0 where
  pub plan : (rules t).plan ≡ t.plan
  pub served : length t.speeches.items ≡ (rules t).served

-- each call was in its lane's script, and its reply is the rules'
abbrev pub IsLegal : (Task → Discipline) → Task → Left → Type 0
IsLegal rules t x = LegalBy (rules t) (newest_first x)

-- the same, by the rules of a plan's own berths in their own words
abbrev pub IsOwnLegal : Task → Left → Type 0
IsOwnLegal t x = Legal t.plan (newest_first x)

-- each action is granted once, and only what was granted is committed, once
abbrev pub HasRace : Task → Left → Type 0
HasRace t x = Race (newest_first x)

-- each answer that was consumed is that of a request of its own
abbrev pub IsPaired : Task → Left → Type 0
IsPaired t x = Paired t.plan (newest_first x)

-- it keeps what its orders keep
abbrev pub IsKept : (Task → List Entry → Type 0) → Task → Left → Type 0
IsKept orders t x = orders t (newest_first x)

-- a lane has halted exactly where the fault says so
abbrev pub HaltsAsSaid : EndedTold → Type 0
HaltsAsSaid end = OnRun end (λ t x. has_halt (history_of x.journal) ≡ is_halted end.fault)

-- The flag that is handed back is true exactly where a lane has halted; so it is false where no run
-- is told, which has no entry.
abbrev pub IsFlagged : EndedTold → Type 0
IsFlagged end = end.left.halted ≡ has_halt (history_of end.left.journal)

-- where no lane has halted, each lane was told to stop, last of all
abbrev pub IsStopped : (Task → Discipline) → Task → Left → Type 0
IsStopped rules t x = Stops (rules t).served (history_of x.journal)

-- where no lane has halted
abbrev pub WithoutHalt : Left → Type 0 → Type 0
WithoutHalt x P = has_halt (history_of x.journal) ≡ false → P

-- then every action is settled with an outcome, and each request and each attempt is accounted for
abbrev pub IsAccounted : Task → Left → Type 0
IsAccounted t x = WithoutHalt x (Finished t.plan (newest_first x))

-- every outcome is a success
abbrev pub AllSucceed : Task → Left → Type 0
AllSucceed t x = list_all is_success (ends_of t.plan (newest_first x)) ≡ true

-- and where every worker did its part, every outcome is a success
abbrev pub IsComplete : Task → Left → Type 0
IsComplete t x = WithoutHalt x (Clean (newest_first x) → AllSucceed t x)

abbrev pub IsSuccess : Task → EndedTold → Type 0
IsSuccess t end = AllSucceed t end.left × (end.status ≡ 0)

-- With no fault a task was run, and where every worker did its part, every outcome is a success and
-- the status says so.
abbrev pub Succeeds : EndedTold → Type 0
Succeeds end = end.fault ≡ None → (t : Task) × (end.task ≡ Some t)
    × (Clean (newest_first end.left) → IsSuccess t end)

-- ---- progress

-- At no moment did all of these lanes rest, unless all had left, or some process owed an answer or
-- its end.
abbrev pub IsNeverStuck : (Task → Discipline) → (Task → ℕ) → Task → Left → Type 0
IsNeverStuck rules lanes t x = NeverStuck (rules t) (lanes t) (newest_first x)

-- the proxy lane and the tap lane of each berth of the plan
abbrev pub own_lanes : Task → ℕ
own_lanes t = 2 * berths t.plan

-- beside noise, the journal has at most twelve entries for each attempt that the plan allows, one
-- for each action, and one for each lane
abbrev pub IsFew : Task → Left → Type 0
IsFew t x = CallsAreFew t.plan (own_lanes t) (newest_first x)

-- ---- the objects

-- the bytes at each line's pipes are those that the journal says
abbrev pub HasPipes : Task → Left → Type 0
HasPipes t x = Pipes t.speeches.items (history_of x.journal) x.lines

-- each berth was new at first, and all that was asked of it is what its lane's orders ask, by the
-- speech of the berth and the settings of the task
pub record HasRooms (rules : Task → Discipline) (t : Task) (x : Left) : Type 0 where
  pub settings : Settings
  pub of_task : AreSettingsOf t settings
  pub before : List BerthTold
  pub new : AreNewBerths (rules t).served before
  pub rooms : Rooms (answer_after (rules t)) settings t.work.actions
      (history_of x.journal) x.lines 0 t.speeches.items before x.berths x.unsaid

-- A line that was started, and not reported: its berth's proxy lane has halted, and the line's child
-- was killed, once.
pub record IsUnsaid (h : History) (w : ℕ) (line : Returned) : Type 0 where
  pub halted : has_halt (calls_by (proxy_lane w) h) ≡ true
  pub killed : IsKilled line.line line.child

-- there is a slot for each berth, and in it such a line of that berth, or nothing
pub record HasUnsaid (t : Task) (x : Left) : Type 0 where
  pub as_many : length x.unsaid ≡ length x.berths
  pub each : (w : ℕ) (line : Returned) → slice_get x.unsaid w ≡ Some (Some line)
      → IsUnsaid (history_of x.journal) w line

-- each action's place was written what was granted and committed, and nothing else
abbrev pub HasOuts : Task → Left → Type 0
HasOuts t x = Outs t.plan (history_of x.journal) x.places

-- ---- no run

-- it holds where no run is told
abbrev pub UnlessRun : Option Task → Type 0 → Type 0
UnlessRun None P = P
UnlessRun (Some t) P = Unit {0}

-- ---- all of it

-- What the run of a task by these rules keeps over this floor, but for what it puts: where it is
-- told, all of one history, which is the journal, and which keeps what its orders keep.
pub record TaskKeeps (rules : Task → Discipline) (orders : Task → List Entry → Type 0)
    (before : FloorTold) (end : EndedTold) : Type 0 where
  pub told : TellsTask end.fault end.task
  pub sound : OnRun end IsSound
  pub nothing : UnlessRun end.task (LeavesNew end.fault end.left)
  pub made : MadeAll before end
  pub of_task : OnRun end (AreRulesOf rules)
  -- the one journal of the run
  pub legal : OnRun end (IsLegal rules)
  pub race : OnRun end HasRace
  pub paired : OnRun end IsPaired
  pub kept : OnRun end (IsKept orders)
  pub halts : HaltsAsSaid end
  pub flag : IsFlagged end
  pub stopped : OnRun end (IsStopped rules)
  pub accounted : OnRun end IsAccounted
  pub complete : OnRun end IsComplete
  -- what each object tells is the journal's
  pub pipes : OnRun end HasPipes
  pub rooms : OnRun end (HasRooms rules)
  pub unsaid : OnRun end HasUnsaid
  pub outs : OnRun end HasOuts
  -- how it ended
  pub success : Succeeds end
  pub status : end.status ≡ status_by end.fault end.task end.left.journal
  pub floor : Counts before.faults end.floor.faults (IsFloorFailed end.fault)
  pub files : SameFiles before end.floor

-- What a run with these options keeps over this floor, but for what it puts.
pub record RunKeeps (options : Option Options) (before : FloorTold) (end : EndedTold) : Type 0 where
  -- what was read led to the task that was run, or to the fault
  pub course : HasCourse options before end
  -- by the rules of berths that the plan's groups have of their own
  pub task : TaskKeeps own_rules own_kept before end
  pub legal : OnRun end IsOwnLegal
  pub awaited : OnRun end (IsNeverStuck own_rules own_lanes)
  pub few : OnRun end IsFew
