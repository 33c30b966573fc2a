-- What a run over objects that tell leaves, said by equations.
use Rattle.std.specs.Prelude.{◌≡◌, ℕ, ◌<◌, ◌≤◌, ◌^◌, true, false, List, [], ◌++◌, length, take, slice_get, Option, Some, Result, IfSome}
use Rattle.build_report.specs.declared.fault.RunFault.{RunFault}
use Rattle.exec_journal.specs.declared.call.CommitEnd.{CommitEnd}
use Rattle.exec_journal.specs.declared.call.CommitEnd.TheVariants as commit
use Rattle.exec_journal.specs.declared.call.HowEnded.{HowEnded}
use Rattle.exec_journal.specs.declared.call.HowEnded.TheVariants as ending
use Rattle.core_contract.specs.Duties.{proxy_lane}
use Rattle.core_contract.specs.Moves.{History}
use Rattle.core_contract.specs.Shelf.{Spot, Fresh, Away, Back, place_at}
use Rattle.core_contract.specs.Discipline.{Discipline, outputs_in}
use Rattle.core_contract.specs.Ruled.{answer_after}
use Rattle.lane_laws.specs.Numbers.{In}
use Rattle.lane_laws.specs.Pipes.{end_on, said_on}
use Rattle.lane_runs.specs.Runs.{line_at}
use Rattle.outside.specs.Told.{BerthTold, LineTold, PlaceTold, TapTold}
use Rattle.outside.specs.declared.floor.FloorRead.{FloorRead}
use Rattle.outside.specs.declared.place.PlaceWrite.{PlaceWrite}
use Rattle.outside_real.specs.Telling.{SinkSeen}
use Rattle.output_commit.specs.Commits.{writes_of}
use Rattle.proxy_words.specs.Lines.{started_in}
use Rattle.run_values.specs.declared.settings.Settings.{Settings}
use Rattle.real_run.specs.Rooms.{AllServed}
use Rattle.run_plan.specs.declared.plan.Speech.{Speech}
use Rattle.run_tasks.specs.Course.{Course}
use Rattle.run_tasks.specs.declared.task.Task.{Task}
use Rattle.seat_desk.specs.History.{calls_by}
use Rattle.tap_lane.specs.Heard.{SaysTo}
use Rattle.tool_words.specs.declared.options.Options.{Options}
use Rattle.worker_run.specs.Ends.{HasLed, UnlessEarly}
use Rattle.worker_run.specs.Headline.{OnRun, UnlessRun, own_rules}
use Rattle.worker_run.specs.Histories.{history_of}
use Rattle.worker_run.specs.Lanes.{AreSettingsOf}
use Rattle.worker_run.specs.Seen.{EndedTold, Left}

-- ---- what was read

-- These are all reads since then, in this order of work, and they led to the task that was run, or
-- to the fault.
abbrev pub HasReadBy : {X : Type 0} → (List FloorRead → Result X RunFault → Type 0) → (X → Task)
    → List FloorRead → EndedTold → Type 0
HasReadBy course task_of before end = UnlessEarly end.fault ((reads : List FloorRead)
    × (end.floor.log ≡ Some (before ++ reads)) × HasLed course task_of end.fault end.task reads)

-- so by the words' options
abbrev pub HasRead : Option Options → List FloorRead → EndedTold → Type 0
HasRead options before end = HasReadBy (Course options) (λ made. made.0) before end

-- ---- the places

-- these writes were done, or where one failed the first ones, fewer than all
abbrev pub WroteAll : CommitEnd → List PlaceWrite → PlaceTold → Type 0
WroteAll commit.Done all place = place.log ≡ Some all
WroteAll (commit.PlaceFault k) all place =
    (place.log ≡ Some (take k all)) × (k < length all) × (0 < place.faults)

-- what was written of an action with these outputs, by what came of its place
abbrev pub IsWritten : List (List ℕ) → Spot → PlaceTold → Type 0
IsWritten outputs Fresh place = place.log ≡ Some []
IsWritten outputs (Away files) place = ⊥
IsWritten outputs (Back files how) place = WroteAll how (writes_of outputs files) place

-- To each action's place was written what was granted and committed, and nothing else ever was.
abbrev pub AreWritten : Task → Left → Type 0
AreWritten t x = (a : ℕ) (p : PlaceTold) → slice_get x.places a ≡ Some p
    → IsWritten (outputs_in t.plan a) (place_at a (history_of x.journal)) p

-- ---- the taps

-- why a line has ended whose tap gave these bytes
abbrev pub EndedFor : HowEnded → TapTold → List ℕ → Type 0
EndedFor ending.End tap bytes = tap.ended ≡ Some true
EndedFor ending.TapFault tap bytes = (0 < tap.faults) × (tap.ended ≡ Some false)
EndedFor ending.BadFrame tap bytes = tap.ended ≡ Some false
EndedFor ending.Long tap bytes = (tap.ended ≡ Some false) × (2 ^ 40 ≤ length bytes)

-- All bytes that were taken from the tap of the line l say the answers that the history tells of it,
-- by how it has ended, and it has ended so for cause.
pub record IsHeard (s : Speech) (h : History) (l : ℕ) (tap : TapTold) : Type 0 where
  pub bytes : List ℕ
  pub taken : tap.taken ≡ Some bytes
  pub says : SaysTo s (end_on l h) bytes (said_on l h)
  pub ended : IfSome (end_on l h) (λ how. EndedFor how tap bytes)

-- the line was started by the proxy lane of some berth, and what it said was heard
pub record WasHeard (speeches : List Speech) (h : History) (l : ℕ) (line : LineTold) : Type 0 where
  pub berth : ℕ
  pub spoken : Speech
  pub of_berth : slice_get speeches berth ≡ Some spoken
  pub started : In l (started_in (calls_by (proxy_lane berth) h))
  pub heard : IsHeard spoken h l line.tap

-- so it is with each line that was started
abbrev pub AreHeard : Task → Left → Type 0
AreHeard t x = (l : ℕ) (line : LineTold) → line_at x.lines l ≡ Some line
    → WasHeard t.speeches.items (history_of x.journal) l line

-- ---- the berths

-- each berth was asked what its lane's orders ask, by the speech of the berth and the settings of the
-- task
pub record AreServed (rules : Task → Discipline) (t : Task) (x : Left) : Type 0 where
  pub settings : Settings
  pub of_task : AreSettingsOf t settings
  pub as_many : length x.berths ≡ (rules t).served
  pub served : AllServed (answer_after (rules t)) settings t.work.actions
      (history_of x.journal) x.lines 0 t.speeches.items x.berths x.unsaid

-- ---- no run

-- nothing was asked of a berth, and nothing was written to a place
pub record IsUntouched (x : Left) : Type 0 where
  pub berths : (w : ℕ) (b : BerthTold) → slice_get x.berths w ≡ Some b → b.log ≡ Some []
  pub places : (a : ℕ) (p : PlaceTold) → slice_get x.places a ≡ Some p → p.log ≡ Some []

-- ---- all of it

-- What the objects of a run by these rules were asked and what they gave, all of it, by the one history
-- that the journal is; and nothing where no run is told.
pub record WholeTask (rules : Task → Discipline) (end : EndedTold) : Type 0 where
  pub untouched : UnlessRun end.task (IsUntouched end.left)
  pub served : OnRun end (AreServed rules)
  pub heard : OnRun end AreHeard
  pub written : OnRun end AreWritten

-- What a run of a list leaves, by the words' options, where the floor had told these reads before.
pub record WholeRun (options : Option Options) (before : List FloorRead) (end : EndedTold) : Type 0 where
  pub read : HasRead options before end
  pub objects : WholeTask own_rules end

-- ---- standard output

-- unless a call on it has failed, it was given these bytes, behind those before, and no others
abbrev pub HasPut : List ℕ → SinkSeen → SinkSeen → Type 0
HasPut bytes old new = old.faults ≡ 0 → new.faults ≡ 0 → new.said ≡ old.said ++ bytes
