-- What a run of the lanes of a task says, one promise after another.
use Rattle.std.proofs.Common.{arith, ◌≡◌, ℕ, zero, suc, ◌+◌, ◌<◌, Bool, true, false, ◌&&◌, if◌then◌else◌, List, [], ◌∷◌, length, slice_get, reverse, Option, Some, None, IfSome, refl, ap, sym, subst, ◌∙◌}
use Rattle.std.specs.List.{list_all}
use Rattle.build_report.specs.Report.{is_success}
use Rattle.build_report.specs.declared.fault.RunFault.{RunFault}
use Rattle.build_report.specs.declared.fault.RunFault.TheVariants as fault
use Rattle.build_report.specs.declared.fault.Stage.{Stage}
use Rattle.build_report.specs.declared.fault.Stage.TheVariants as stage
use Rattle.exec_journal.specs.Entry.{Entry}
use Rattle.exec_journal.specs.Clean.{Clean}
use Rattle.exec_journal.specs.Lawful.{Lawful}
use Rattle.exec_journal.specs.Ends.{ends_from, ends_of}
use Rattle.exec_journal.specs.Outcomes.{is_ok, outcome_of}
use Rattle.exec_journal.specs.Settled.{all_settled, is_settled, standings, standings_from}
use Rattle.exec_journal.specs.Words.{halted, stopped}
use Rattle.exec_journal.specs.declared.call.Call.{Call}
use Rattle.exec_journal.specs.declared.reply.Reply.{Reply}
use Rattle.core_contract.specs.Discipline.{Discipline}
use Rattle.core_contract.specs.Disciplines.{IsDiscipline, LegalBy}
use Rattle.core_contract.specs.Moves.{History}
use Rattle.journal_laws.proofs.Cleaned.{all_succeed}
use Rattle.journal_laws.proofs.Known.{outcome_known, stopped_settled}
use Rattle.discipline_laws.proofs.Fitting.{lawful}
use Rattle.journal_laws.proofs.Races.{race}
use Rattle.journal_laws.proofs.Requests.{paired}
use Rattle.journal_laws.proofs.Stops.{each_settled, settled_accounted}
use Rattle.journal_laws.specs.Finished.{Finished}
use Rattle.lane_runs.specs.Layout.{has_halt}
use Rattle.lane_runs.specs.Runs.{Outs, Pipes, Rooms, Stops}
use Rattle.run_plan.specs.Sound.{Sound}
use Rattle.run_plan.specs.declared.plan.Plan.{Plan}
use Rattle.run_plan.specs.declared.plan.PlanAction.{PlanAction}
use Rattle.run_plan.specs.declared.plan.Speech.{Speech}
use Rattle.remote_messages.specs.declared.work.WorkAction.{WorkAction}
use Rattle.core_contract.specs.Duties.{proxy_lane}
use Rattle.run_values.specs.declared.settings.Settings.{Settings}
use Rattle.run_tasks.specs.declared.task.Task.{Task}
use Rattle.core_contract.specs.Ruled.{answer_after, journal_of}
use Rattle.worker_run.proofs.Histories.{halted_is, newest_is, stopped_is}
use Rattle.worker_run.proofs.Unsaid.{rooms_unsaid, unsaid_at}
use Rattle.worker_run.specs.Ends.{IsReportEnd, IsRunEnd, is_halted, status_by}
use Rattle.worker_run.specs.Headline.{AllSucceed, AreRulesOf, HasOuts, HasPipes, HasRace, HasRooms, HasUnsaid, IsUnsaid, IsAccounted, IsComplete, IsPaired, IsStopped, OnRun, Succeeds, newest_first}
use Rattle.worker_run.specs.Histories.{history_of}
use Rattle.worker_run.specs.Lanes.{AreSettingsOf, AreNewBerths, FitsLanes, IsUnused, LanesRan, WhereLost, WhereWhole, is_during}
use Rattle.worker_run.specs.Seen.{EndedTold, Left}

finished : (p : Plan) (j : List Entry) → Sound p → Lawful p j → all_settled p j ≡ true
    → Finished p j
finished p j sound lawful all = record {
  settled_all = all;
  known = λ a x at. outcome_known p j a x at (each_settled p j a x all at);
  accounted = settled_accounted p j sound lawful all;
}

-- a plan without actions has none to settle
none_to_settle : (p : Plan) (j : List Entry) → p.actions ≡ [] → all_settled p j ≡ true
unfolding all_settled standings
none_to_settle p j none = ap (λ (xs : List PlanAction). list_all is_settled
    (standings_from p j [] xs)) none

-- where each outcome is a success, all are
ok_from : (p : Plan) (j : List Entry) (a : ℕ) (xs : List PlanAction)
    → ((i : ℕ) (x : PlanAction) → slice_get xs i ≡ Some x → is_ok (outcome_of p j (a + i)) ≡ true)
    → list_all is_success (ends_from p j a xs) ≡ true
ok_from p j a [] h = refl
ok_from p j a (x ∷ xs) h = both
    (subst (λ n. is_ok (outcome_of p j n) ≡ true) (omega arith) (h 0 x refl))
    (ok_from p j (suc a) xs (λ i y at. subst (λ n. is_ok (outcome_of p j n) ≡ true) (omega arith)
    (h (suc i) y at)))
  where
    both : {u v : Bool} → u ≡ true → v ≡ true → (u && v) ≡ true
    both h k = rw (h, k) refl

all_ok : (p : Plan) (j : List Entry)
    → ((i : ℕ) (x : PlanAction) → slice_get p.actions i ≡ Some x
    → is_ok (outcome_of p j i) ≡ true) → list_all is_success (ends_of p j) ≡ true
unfolding ends_of
all_ok p j h = ok_from p j 0 p.actions
    (λ i x at. subst (λ n. is_ok (outcome_of p j n) ≡ true) (omega arith) (h i x at))

-- ---- by the discipline of the core

-- the lanes of this task ran by the discipline, and by the task's settings
pub record RanBy (q : Discipline) (t : Task) (when : Option Stage) (x : Left) : Type 0 where
  pub settings : Settings
  pub of_task : AreSettingsOf t settings
  pub beside : ℕ
  pub lanes : LanesRan q t.speeches.items settings t.work.actions beside when x

whole_as : (when : Option Stage) (P Q : Type 0) → (P → Q) → WhereWhole when P → WhereWhole when Q
whole_as None P Q f p = f p
whole_as (Some stage.During) P Q f p = f p
whole_as (Some stage.Before) P Q f p = tt
whole_as (Some stage.After) P Q f p = p

-- so they did, where they ran by the task's speeches, settings and work
pub where_ran : (q : Discipline) (t : Task) (beside : ℕ) (when : Option Stage) (x : Left)
    (spoken : List Speech) (settings : Settings) (work : List WorkAction)
    → WhereWhole when (LanesRan q spoken settings work beside when x) → AreSettingsOf t settings
    → spoken ≡ t.speeches.items → work ≡ t.work.actions → WhereWhole when (RanBy q t when x)
where_ran q t beside when x spoken settings work ran of_task speeches actions =
    whole_as when (LanesRan q t.speeches.items settings t.work.actions beside when x)
    (RanBy q t when x)
    (λ lanes. record { settings = settings; of_task = of_task; beside = beside; lanes = lanes })
    (subst (λ (ws : List WorkAction).
    WhereWhole when (LanesRan q t.speeches.items settings ws beside when x)) actions
    (subst (λ (ss : List Speech). WhereWhole when (LanesRan q ss settings work beside when x))
    speeches ran))

-- ---- what it says

module _ (q : Discipline) (is : IsDiscipline q) (t : Task) (fits : FitsLanes q t)
    (when : Option Stage) (x : Left) (ran : RanBy q t when x) where
  plan : q.plan ≡ t.plan
  plan = fits.plan

  same : history_of x.journal ≡ ran.lanes.run.history
  same = ran.lanes.run.in_journal

  newest : journal_of ran.lanes.run.history ≡ newest_first x
  newest = newest_is ran.lanes.run.history ∙ ap reverse (sym ran.lanes.run.in_journal)

  pub are_rules : AreRulesOf (λ t. q) t x
  are_rules = record { plan = fits.plan; served = fits.served }

  pub is_legal : LegalBy q (newest_first x)
  is_legal = subst (LegalBy q) newest ran.lanes.run.is_legal.legal

  pub is_kept : (orders : List Entry → Type 0)
      → ((j : List Entry) → Sound q.plan → LegalBy q j → orders j) → orders (newest_first x)
  is_kept orders keeps = keeps (newest_first x) ran.lanes.run.is_legal.sound is_legal

  is_sound : Sound t.plan
  is_sound = subst Sound plan ran.lanes.run.is_legal.sound

  is_lawful : Lawful t.plan (newest_first x)
  is_lawful = subst (λ (p : Plan). Lawful p (newest_first x)) plan
      (lawful q is (newest_first x) is_legal)

  pub has_race : HasRace t x
  has_race = race t.plan (newest_first x) is_lawful

  pub is_paired : IsPaired t x
  is_paired = paired t.plan (newest_first x) is_lawful

  pub halts : has_halt (history_of x.journal) ≡ is_during when
  halts = ap has_halt same ∙ (sym ran.lanes.run.halts ∙ ran.lanes.halted)

  pub flagged : x.halted ≡ has_halt (history_of x.journal)
  flagged = ran.lanes.run.halts ∙ ap has_halt (sym same)

  pub has_pipes : HasPipes t x
  has_pipes = subst (λ h. Pipes t.speeches.items h x.lines) (sym same) ran.lanes.run.pipes

  pub has_outs : HasOuts t x
  has_outs = subst (λ h. Outs t.plan h x.places) (sym same)
      (subst (λ (p : Plan). Outs p ran.lanes.run.history x.places) plan ran.lanes.run.outs)

  pub has_unsaid : HasUnsaid t x
  has_unsaid = record {
    as_many = rooms_unsaid (answer_after q) ran.settings t.work.actions
        ran.lanes.run.history x.lines 0 t.speeches.items ran.lanes.before x.berths x.unsaid ran.lanes.run.rooms;
    each = λ w line is. subst (λ h. IsUnsaid h w line) (sym same)
        (subst (λ v. IsUnsaid ran.lanes.run.history v line) (let z : 0 + w ≡ w = omega arith in z)
        (unsaid_at (answer_after q) ran.settings t.work.actions ran.lanes.run.history x.lines
        0 t.speeches.items ran.lanes.before x.berths x.unsaid ran.lanes.run.rooms w line is));
  }

  pub has_rooms : HasRooms (λ t. q) t x
  has_rooms = record {
    settings = ran.settings;
    of_task = ran.of_task;
    before = ran.lanes.before;
    new = subst (λ n. AreNewBerths n ran.lanes.before) fits.served ran.lanes.new;
    rooms = subst (λ h. Rooms (answer_after q) ran.settings t.work.actions h x.lines 0
        t.speeches.items ran.lanes.before x.berths x.unsaid) (sym same) ran.lanes.run.rooms;
  }

  pub is_stopped : IsStopped (λ t. q) t x
  is_stopped = subst (λ n. Stops n (history_of x.journal)) fits.served
      (subst (λ h. Stops (length t.speeches.items) h) (sym same) ran.lanes.run.stops)

  stops_first : has_halt ran.lanes.run.history ≡ false → 0 < q.served
      → stopped (newest_first x) (proxy_lane 0) ≡ true
  stops_first none some =
      let stops : Stops q.served ran.lanes.run.history =
      subst (λ n. Stops n ran.lanes.run.history) fits.served ran.lanes.run.stops in
      ap (λ (j : List Entry). stopped j (proxy_lane 0)) (sym newest)
      ∙ stopped_is ran.lanes.run.history (proxy_lane 0) (stops none 0 some).0

  unhalted : has_halt (history_of x.journal) ≡ false → halted (newest_first x) ≡ false
  unhalted none = ap halted (sym newest)
      ∙ (halted_is ran.lanes.run.history ∙ (ap has_halt (sym same) ∙ none))

  settles : (n : ℕ) → q.served ≡ n → has_halt (history_of x.journal) ≡ false
      → all_settled t.plan (newest_first x) ≡ true
  settles zero is none = none_to_settle t.plan (newest_first x) (fits.settled is)
  settles (suc n) is none = stopped_settled t.plan (newest_first x) (proxy_lane 0) is_lawful
      (stops_first (ap has_halt (sym same) ∙ none) (subst (λ m. 0 < m) (sym is) (omega arith)))
      (unhalted none)

  pub is_accounted : IsAccounted t x
  is_accounted none = finished t.plan (newest_first x) is_sound is_lawful
      (settles q.served refl none)

  pub is_complete : IsComplete t x
  is_complete none clean = all_ok t.plan (newest_first x)
      (all_succeed t.plan (newest_first x) is_sound is_lawful clean (unhalted none)
      (settles q.served refl none))

-- What is so of each run of lanes is so of the run that is told.
module _ (when : Option Stage) (t : Task) (x : Left) (end : EndedTold) where
  told : (P : Task → Left → Type 0) → end.task ≡ Some t → end.left ≡ x → P t x → OnRun end P
  told P task left is = subst (λ (o : Option Task). IfSome o (λ t. P t end.left)) (sym task)
      (subst (λ y. P t y) (sym left) is)

  untold : (P : Task → Left → Type 0) → end.task ≡ None → OnRun end P
  untold P task = subst (λ (o : Option Task). IfSome o (λ t. P t end.left)) (sym task) tt

pub on_run : (when : Option Stage) (t : Task) (x : Left) (end : EndedTold) (Ran : Type 0)
    (P : Task → Left → Type 0) → IsRunEnd when t end.fault end.task
    → WhereWhole when Ran → end.left ≡ x → (Ran → P t x)
    → OnRun end P
on_run None t x end Ran P kind ran left is = told None t x end P kind.1 left (is ran)
on_run (Some stage.During) t x end Ran P kind ran left is =
    told None t x end P kind.1 left (is ran)
on_run (Some stage.Before) t x end Ran P kind ran left is = untold None t x end P kind.1
on_run (Some stage.After) t x end Ran P kind ran left is = absurd kind

-- no lane halted, and the fault doesn't say so
late : (f : Option RunFault) → IsReportEnd f → is_halted f ≡ false
late None e = refl
late (Some fault.SinkFailed) e = refl
late (Some (fault.NoMemory stage.After)) e = refl
late (Some (fault.NoMemory stage.Before)) e = refl
late (Some (fault.NoMemory stage.During)) e = absurd (cc)
late (Some fault.Words) e = refl
late (Some (fault.List x)) e = refl
late (Some (fault.Flags a x)) e = refl
late (Some (fault.Absent at)) e = refl
late (Some (fault.FloorFailed at)) e = refl

pub during_said : (when : Option Stage) (t : Task) (f : Option RunFault) (o : Option Task)
    → IsRunEnd when t f o → is_during when ≡ is_halted f
during_said None t f o kind = sym (late f kind.0)
during_said (Some stage.During) t f o kind = sym (ap is_halted kind.0)
during_said (Some stage.Before) t f o kind = sym (ap is_halted kind.0)
during_said (Some stage.After) t f o kind = absurd kind

-- where no lane was started no entry is there, and the flag is false
pub flag_is : (when : Option Stage) (x : Left) (Ran : Type 0) → WhereWhole when Ran
    → WhereLost when (IsUnused x) → (Ran → x.halted ≡ has_halt (history_of x.journal))
    → x.halted ≡ has_halt (history_of x.journal)
flag_is None x Ran ran lost is = is ran
flag_is (Some stage.During) x Ran ran lost is = is ran
flag_is (Some stage.Before) x Ran ran lost is =
    lost.halted ∙ sym (ap (λ (j : List Entry). has_halt (history_of j)) lost.journal)
flag_is (Some stage.After) x Ran ran lost is = absurd ran

-- ---- with no fault

zero_where : (b : Bool) → b ≡ true → ◌≡◌ {A = ℕ} (if b then 0 else 1) 0
zero_where true is = refl
zero_where false is = absurd (cc)

module _ (t : Task) (end : EndedTold) (task : end.task ≡ Some t) where
  is_zero : end.fault ≡ None → end.status ≡ status_by end.fault end.task end.left.journal
      → AllSucceed t end.left → end.status ≡ 0
  is_zero none status all = status
      ∙ (ap (λ (f : Option RunFault). status_by f end.task end.left.journal) none
      ∙ (ap (λ (o : Option Task). status_by None o end.left.journal) task
      ∙ zero_where (list_all is_success (ends_of t.plan (newest_first end.left))) all))

module _ (t : Task) (x : Left) (end : EndedTold) (left : end.left ≡ x)
    (status : end.status ≡ status_by end.fault end.task end.left.journal) where
  pub succeeds : (when : Option Stage) (Ran : Type 0) → (Ran → IsComplete t x)
      → (Ran → has_halt (history_of x.journal) ≡ is_during when)
      → IsRunEnd when t end.fault end.task → WhereWhole when Ran → Succeeds end
  succeeds None Ran complete halts kind ran none = (
    t,
    kind.1,
    λ clean.
        let all = subst (λ (y : Left). Clean (newest_first y) → AllSucceed t y) (sym left)
        (complete ran (halts ran)) clean in
        (all, is_zero t end kind.1 none status all),
  )
  succeeds (Some stage.During) Ran complete halts kind ran none = absurd (let e = kind.0 in cc)
  succeeds (Some stage.Before) Ran complete halts kind ran none = absurd (let e = kind.0 in cc)
  succeeds (Some stage.After) Ran complete halts kind ran none = absurd kind
