-- From what every run keeps, and that its objects tell, to equations.
use Rattle.std.proofs.Common.{◌≡◌, ◌∙◌, ℕ, zero, suc, ◌≤◌, ◌^◌, true, false, List, [], ◌++◌, length, take, Option, Some, None, Result, refl, sym, subst, ◌+◌, arith}
use Rattle.std.specs.Prelude.{IsSome}
use Rattle.build_report.specs.declared.fault.RunFault.{RunFault}
use Rattle.build_report.specs.declared.fault.RunFault.TheVariants as fault
use Rattle.build_report.specs.declared.fault.Stage.TheVariants as stage
use Rattle.core_machine.specs.Objects.{WroteAs, WroteBy}
use Rattle.core_contract.specs.Moves.{History}
use Rattle.core_contract.specs.Shelf.{Spot, Fresh, Away, Back, place_at}
use Rattle.exec_journal.specs.declared.call.CommitEnd.{CommitEnd}
use Rattle.exec_journal.specs.declared.call.CommitEnd.TheVariants as commit
use Rattle.exec_journal.specs.declared.call.HowEnded.{HowEnded}
use Rattle.exec_journal.specs.declared.call.HowEnded.TheVariants as ending
use Rattle.exec_journal.specs.Entry.{Entry}
use Rattle.core_contract.specs.Discipline.{Discipline, outputs_in}
use Rattle.core_contract.specs.Ruled.{answer_after}
use Rattle.lane_laws.specs.Pipes.{PipeOf, end_on, said_on}
use Rattle.lane_runs.specs.Runs.{line_at}
use Rattle.outside.specs.Lists.{Adds, Tells}
use Rattle.outside.specs.Told.{FloorTold, PlaceTold, TapTold}
use Rattle.outside.specs.declared.floor.FloorRead.{FloorRead}
use Rattle.outside.specs.declared.place.PlaceWrite.{PlaceWrite}
use Rattle.outside_real.specs.Telling.{SinkSeen, until_a_fault}
use Rattle.output_commit.specs.Commits.{writes_of}
use Rattle.real_run.proofs.Each.{at_index, if_some, it_is, where_there}
use Rattle.real_run.proofs.Serving.{as_many_rooms, rooms_served}
use Rattle.real_run.proofs.Told.{line_tells}
use Rattle.real_run.specs.Objects.{sink_told}
use Rattle.real_run.specs.Tells.{AllTell, LeftTells, LineTells, PlaceTells, TapTells}
use Rattle.real_run.specs.Whole.{AreHeard, AreServed, AreWritten, EndedFor, HasPut, HasReadBy, IsHeard, IsUntouched, IsWritten, WholeRun, WholeTask, WroteAll}
use Rattle.run_loading.specs.Reads.{Reads}
use Rattle.run_plan.specs.declared.plan.Speech.{Speech}
use Rattle.run_tasks.specs.Course.{Course}
use Rattle.run_tasks.specs.declared.task.Task.{Task}
use Rattle.tap_lane.specs.Heard.{EndedBy, SaysTo}
use Rattle.tool_words.specs.declared.options.Options.{Options}
use Rattle.worker_run.specs.Ends.{HasCourseBy, HasLed, LeavesNew, Puts, UnlessEarly}
use Rattle.worker_run.specs.Headline.{HasOuts, HasPipes, HasRooms, RunKeeps, TaskKeeps, UnlessRun, own_kept, own_rules}
use Rattle.worker_run.specs.Histories.{history_of}
use Rattle.worker_run.specs.Lanes.{IsNewBerth}
use Rattle.worker_run.specs.Seen.{EndedTold, Left, nothing_left}

-- ---- what was read

pub told_so : {A : Type 0} (xs : List A) (o : Option (List A)) → o ≡ Some xs → Tells o xs
told_so {A = A} xs o is = subst (λ (p : Option (List A)). Tells p xs) (sym is) refl

unless_early : (P Q : Type 0) (end : Option RunFault) → UnlessEarly end P → (P → Q) → UnlessEarly end Q
unless_early P Q (Some (fault.NoMemory stage.Before)) p f = tt
unless_early P Q end p f = f p

module _ {X : Type 0} (course : List FloorRead → Result X RunFault → Type 0) (task_of : X → Task) where
  -- over a floor that had told these reads
  pub whole_reads : (before : FloorTold) (told : List FloorRead) (end : EndedTold) → before.log ≡ Some told
      → HasCourseBy course task_of before end → IsSome end.floor.log → HasReadBy course task_of told end
  whole_reads before told end was led tells = unless_early
      (Reads before end.floor (HasLed course task_of end.fault end.task))
      ((reads : List FloorRead) × (end.floor.log ≡ Some (told ++ reads)) × HasLed course task_of end.fault end.task reads)
      end.fault led
      (λ r. (r.0, it_is (told ++ r.0) end.floor.log (r.1 told (told_so told before.log was)) tells, r.3))

-- ---- the places

wrote_all : (how : CommitEnd) (all : List PlaceWrite) (p : PlaceTold) → WroteAs how all p → PlaceTells p
    → WroteAll how all p
wrote_all commit.Done all p wrote tells = it_is all p.log wrote tells
wrote_all (commit.PlaceFault k) all p wrote tells = (it_is (take k all) p.log wrote.0 tells, wrote.1, wrote.2)

is_written : (outputs : List (List ℕ)) (spot : Spot) (p : PlaceTold) → WroteBy outputs spot p
    → PlaceTells p → IsWritten outputs spot p
is_written outputs Fresh p wrote tells = it_is [] p.log wrote tells
is_written outputs (Away files) p wrote tells = absurd wrote
is_written outputs (Back files how) p wrote tells = wrote_all how (writes_of outputs files) p wrote tells

all_written : (t : Task) (x : Left) → HasOuts t x → LeftTells x → AreWritten t x
all_written t x outs tell a p is =
    is_written (outputs_in t.plan a) (place_at a (history_of x.journal)) p (outs.each a p is).wrote
    (at_index PlaceTells x.places tell.places a p is)

-- ---- the taps

ended_for : (how : HowEnded) (tap : TapTold) (bytes : List ℕ) → EndedBy how tap → tap.taken ≡ Some bytes
    → IsSome tap.ended → EndedFor how tap bytes
ended_for ending.End tap bytes by taken tells = it_is true tap.ended by tells
ended_for ending.TapFault tap bytes by taken tells = (by.0, it_is false tap.ended by.1 tells)
ended_for ending.BadFrame tap bytes by taken tells = it_is false tap.ended by tells
ended_for ending.Long tap bytes by taken tells = (
  it_is false tap.ended by.0 tells,
  where_there (λ (bs : List ℕ). 2 ^ 40 ≤ length bs) tap.taken bytes by.1 taken,
)

-- what is there
some_of : {A : Type 0} (o : Option A) → IsSome o → (x : A) × (o ≡ Some x)
some_of (Some x) tells = (x, refl)
some_of None tells = absurd (cc)

is_heard : (s : Speech) (h : History) (l : ℕ) (tap : TapTold) → PipeOf s h (l, tap) → TapTells tap
    → IsHeard s h l tap
is_heard s h l tap pipe tells =
    let bytes = some_of tap.taken tells.taken in
    record {
      bytes = bytes.0;
      taken = bytes.1;
      says = where_there (λ (bs : List ℕ). SaysTo s (end_on l h) bs (said_on l h)) tap.taken bytes.0
          pipe.says bytes.1;
      ended = if_some (end_on l h) pipe.cause (λ how by. ended_for how tap bytes.0 by bytes.1 tells.ended);
    }

all_heard : (t : Task) (x : Left) → HasPipes t x → LeftTells x → AreHeard t x
all_heard t x pipes tell l line is =
    let pipe = pipes.each l line is in
    record {
      berth = pipe.berth;
      spoken = pipe.spoken;
      of_berth = pipe.of_berth;
      started = pipe.started;
      heard = is_heard pipe.spoken (history_of x.journal) l line.tap pipe.heard
          (where_there LineTells (line_at x.lines l) line (line_tells x.lines tell.lines l) is).tap;
    }

-- ---- the berths

all_served : (rules : Task → Discipline) (t : Task) (x : Left) → HasRooms rules t x → LeftTells x
    → AreServed rules t x
all_served rules t x rooms tell = record {
  settings = rooms.settings;
  of_task = rooms.of_task;
  as_many = as_many_rooms (answer_after (rules t)) rooms.settings t.work.actions
      (history_of x.journal) x.lines tell.lines 0 t.speeches.items rooms.before x.berths x.unsaid rooms.rooms
      ∙ rooms.new.as_many;
  served = rooms_served (answer_after (rules t)) rooms.settings t.work.actions
      (history_of x.journal) x.lines tell.lines 0 t.speeches.items rooms.before x.berths x.unsaid rooms.rooms
      (λ i b is. subst (λ (v : ℕ). IsNewBerth v b) (let e : i ≡ 0 + i = omega arith in e) (rooms.new.each i b is))
      tell.berths tell.unsaid;
}

-- ---- no run

nothing_touched : IsUntouched nothing_left
nothing_touched = record { berths = λ w b is. absurd (cc); places = λ a p is. absurd (cc) }

-- nothing was touched where nothing is left, or where all that is left is new
untouched : (end : Option RunFault) (x : Left) → LeavesNew end x → LeftTells x → IsUntouched x
untouched (Some (fault.NoMemory stage.Before)) x new tell = record {
  berths = λ w b is. it_is [] b.log (new.berths.each w b is).no_calls (at_index (λ b. IsSome b.log) x.berths tell.berths w b is);
  places = λ a p is. it_is [] p.log (new.places.each a p is).unwritten (at_index PlaceTells x.places tell.places a p is);
}
untouched end x new tell = subst IsUntouched (sym new) nothing_touched

unless_run : (P Q : Type 0) (o : Option Task) → UnlessRun o P → (P → Q) → UnlessRun o Q
unless_run P Q None p f = f p
unless_run P Q (Some t) p f = tt

-- ---- all of it

module _ (rules : Task → Discipline) (orders : Task → List Entry → Type 0) (before : FloorTold)
    (end : EndedTold) where
  pub whole_task : TaskKeeps rules orders before end → AllTell end → WholeTask rules end
  whole_task keeps tell = record {
    untouched = unless_run (LeavesNew end.fault end.left) (IsUntouched end.left) end.task keeps.nothing
        (λ new. untouched end.fault end.left new tell.left);
    served = if_some end.task keeps.rooms (λ t rooms. all_served rules t end.left rooms tell.left);
    heard = if_some end.task keeps.pipes (λ t pipes. all_heard t end.left pipes tell.left);
    written = if_some end.task keeps.outs (λ t outs. all_written t end.left outs tell.left);
  }

-- so it is of a run of a list
pub whole_run : (options : Option Options) (before : FloorTold) (told : List FloorRead) (end : EndedTold)
    → before.log ≡ Some told → RunKeeps options before end → AllTell end → WholeRun options told end
whole_run options before told end was keeps tell = record {
  read = whole_reads (Course options) (λ made. made.0) before told end was keeps.course tell.floor;
  objects = whole_task own_rules own_kept before end keeps.task tell;
}

-- ---- standard output

pub has_put : (bytes : List ℕ) (m n : ℕ) (xs ys : List ℕ)
    → Adds bytes (until_a_fault m xs) (until_a_fault n ys) → m ≡ 0 → n ≡ 0 → ys ≡ xs ++ bytes
has_put bytes zero zero xs ys adds before now = adds xs refl
has_put bytes zero (suc n) xs ys adds before now = absurd (cc)
has_put bytes (suc m) n xs ys adds before now = absurd (cc)

pub whole_report : (end : Option RunFault) (report : List ℕ) (old new : SinkSeen)
    → Puts end report (sink_told old) (sink_told new) → end ≡ None → HasPut report old new
whole_report None report old new puts none = has_put report old.faults new.faults old.said new.said puts
whole_report (Some f) report old new puts none = absurd (cc)
