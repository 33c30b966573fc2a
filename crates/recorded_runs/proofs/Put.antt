-- The report and the text behind it, put one after the other.
use Rattle.std.proofs.Common.{◌≡◌, arith, ℕ, ◌+◌, ◌-◌, ◌^◌, ◌≤◌, min, true, false, is_some, List, ◌++◌, length, take, Option, Some, None, IfSome, inl, inr, refl, ap, sym, subst, ◌∙◌}
use Rattle.std.proofs.Math.Seq.{take-append-add}
use Rattle.std.proofs.lemmas.List.{append_assoc, length-append, take-append-le}
use Rattle.build_report.specs.declared.fault.RunFault.{RunFault}
use Rattle.build_report.specs.declared.fault.RunFault.TheVariants as fault
use Rattle.build_report.specs.declared.fault.Stage.TheVariants as stage
use Rattle.outside.specs.Causes.{Counts}
use Rattle.outside.specs.Lists.{Adds, AddsFront}
use Rattle.outside.specs.Told.{SinkTold}
use Rattle.outside_real.specs.Telling.{SinkSeen}
use Rattle.real_run.proofs.Whole.{has_put}
use Rattle.real_run.specs.Objects.{sink_told}
use Rattle.real_run.specs.Whole.{HasPut}
use Rattle.journal_text.specs.Lines.{text_of}
use Rattle.recorded_runs.specs.Recorded.{IsJudgedYes, Records, RecordsBy, WherePut, YesIfPut, text_by}
use Rattle.run_tasks.specs.declared.task.Task.{Task}
use Rattle.worker_run.specs.Ends.{IsLate, IsReportEnd, Puts, Reports, TellsTask, report_by}
use Rattle.worker_run.specs.Seen.{EndedTold}

-- ---- what stands behind what

if_some : {A : Type 0} (o : Option A) (P Q : A → Type 0) → ((x : A) → P x → Q x) → IfSome o P
    → IfSome o Q
if_some None P Q more p = tt
if_some (Some x) P Q more p = more x p

both : (report text : List ℕ) (old mid new : Option (List ℕ)) → Adds report old mid
    → Adds text mid new → Adds (report ++ text) old new
both report text old mid new first second = λ xs told.
    subst (λ (ys : List ℕ). IfSome new (λ zs. zs ≡ ys)) (append_assoc xs report text)
    (second (xs ++ report) (first xs told))

whole_then_front : (report text : List ℕ) (old mid new : Option (List ℕ)) → Adds report old mid
    → AddsFront text mid new → AddsFront (report ++ text) old new
whole_then_front report text old mid new first second = λ xs told.
    if_some new _ _ (λ zs put. (
      length report + put.0,
      omega (arith, put.1, length-append report text),
      put.2 ∙ append_assoc xs report (take put.0 text)
          ∙ ap (λ ys. xs ++ ys) (sym (take-append-add report text put.0)),
    )) (second (xs ++ report) (first xs told))

front_of_first : (report text : List ℕ) (old new : Option (List ℕ)) → AddsFront report old new
    → AddsFront (report ++ text) old new
front_of_first report text old new first = λ xs told.
    if_some new _ _ (λ zs put. (
      put.0,
      omega (arith, put.1, length-append report text),
      put.2 ∙ ap (λ ys. xs ++ ys) (sym (take-append-le put.0 report text put.1)),
    )) (first xs told)

-- ---- the fault

-- a run that had a fault puts no text
pub only_report : (f : RunFault) (report text : List ℕ) (old new : SinkTold)
    → Puts (Some f) report old new → RecordsBy (Some f) report text old new
only_report fault.SinkFailed report text old new put =
    front_of_first report text old.contents new.contents put
only_report (fault.NoMemory stage.After) report text old new put = inl put
only_report (fault.NoMemory stage.Before) report text old new put = put
only_report (fault.NoMemory stage.During) report text old new put = put
only_report fault.Words report text old new put = put
only_report (fault.List x) report text old new put = put
only_report (fault.Flags a x) report text old new put = put
only_report (fault.Absent at) report text old new put = put
only_report (fault.FloorFailed at) report text old new put = put

-- the text behind a report that was put whole
pub report_and_text : (late : Option RunFault) (report text : List ℕ) (old mid new : SinkTold)
    → IsReportEnd late → Puts None report old mid → Puts late text mid new
    → RecordsBy late report text old new
report_and_text None report text old mid new kind first second =
    both report text old.contents mid.contents new.contents first second
report_and_text (Some fault.SinkFailed) report text old mid new kind first second =
    whole_then_front report text old.contents mid.contents new.contents first second
report_and_text (Some (fault.NoMemory stage.After)) report text old mid new kind first second =
    inr (subst (λ (c : Option (List ℕ)). Adds report old.contents c) (sym second) first)
report_and_text (Some (fault.NoMemory stage.Before)) report text old mid new kind first second =
    absurd (cc)
report_and_text (Some (fault.NoMemory stage.During)) report text old mid new kind first second =
    absurd (cc)
report_and_text (Some fault.Words) report text old mid new kind first second = absurd kind
report_and_text (Some (fault.List x)) report text old mid new kind first second = absurd kind
report_and_text (Some (fault.Flags a x)) report text old mid new kind first second = absurd kind
report_and_text (Some (fault.Absent at)) report text old mid new kind first second = absurd kind
report_and_text (Some (fault.FloorFailed at)) report text old mid new kind first second = absurd kind

-- ---- what was put in the end

pub none_of : (f : Option RunFault) → is_some f ≡ false → f ≡ None
none_of None is = refl
none_of (Some f) is = absurd (cc)

-- an end that is told as this one has no fault where this one has none
pub none_by : (here told : EndedTold) → here ≡ told → is_some here.fault ≡ false → told.fault ≡ None
none_by here told is clear =
    subst (λ (e : EndedTold). e.fault ≡ None) is (none_of here.fault clear)

pub not_none : (f : Option RunFault) → is_some f ≡ true → f ≡ None → ⊥
not_none None is none = absurd (cc)
not_none (Some f) is none = absurd (cc)

without_text : (f : Option RunFault) (report text : List ℕ) (old new : SinkTold)
    → (f ≡ None → ⊥) → Puts f report old new → RecordsBy f report text old new
without_text None report text old new faulty put = absurd (faulty refl)
without_text (Some f) report text old new faulty put = only_report f report text old new put

-- a run that ended with a fault, of which no text is put
pub records_report : (end : EndedTold) (old new : SinkTold) → (end.fault ≡ None → ⊥)
    → Reports end old new → Records end old new
records_report end old new faulty put = without_text end.fault
    (report_by end.task end.left.journal) (text_by end.task end.left.journal) old new faulty put

module _ (end : EndedTold) (t : Task) (old mid new : SinkTold) (none : end.fault ≡ None)
    (its : end.task ≡ Some t) (first : Reports end old mid) where
  first_whole : Puts None (report_by (Some t) end.left.journal) old mid
  first_whole = subst (λ (o : Option Task). Puts None (report_by o end.left.journal) old mid) its
      (subst (λ (o : Option RunFault). Puts o (report_by end.task end.left.journal) old mid) none
      first)

  -- a run that ends with no fault
  pub records_whole : Puts None (text_of t.plan end.left.journal) mid new → Records end old new
  records_whole second = rw (none, its) (report_and_text None
      (report_by (Some t) end.left.journal) (text_of t.plan end.left.journal) old mid new tt
      first_whole second)

  -- a run that ended with none, and ends with this one for its text
  pub records_late : (next : EndedTold) (f : RunFault) → next.fault ≡ Some f
      → next.task ≡ end.task → next.left ≡ end.left → IsLate f
      → Puts (Some f) (text_of t.plan end.left.journal) mid new → Records next old new
  records_late next f fault_is task_is left_is late second = rw (fault_is, task_is, left_is, its)
      (report_and_text (Some f) (report_by (Some t) end.left.journal)
      (text_of t.plan end.left.journal) old mid new late first_whole second)

-- ---- what is said of the run

-- a run without a fault is told
pub never_untold : (f : Option RunFault) (o : Option Task) → TellsTask f o → f ≡ None → o ≡ None → ⊥
never_untold f o told is untold =
    let some : TellsTask None o = subst (λ (x : Option RunFault). TellsTask x o) is told in
    let no : None ≡ Some some.0 = sym untold ∙ some.1 in absurd (cc)

where_put : (f : Option RunFault) (P : Type 0) → P → WherePut f P
where_put None P p = p
where_put (Some f) P p = tt

pub yes_if : (end : EndedTold) (t : Task) → end.task ≡ Some t → IsJudgedYes t.plan end.left.journal
    → YesIfPut end
yes_if end t its judged = where_put end.fault _ (rw its judged)

-- ---- the sink's count

-- it rose in the second of two steps
pub counts_late : (a b c : ℕ) (P Q R : Type 0) → Counts a b P → Counts b c Q → (R → Q) → Counts a c R
counts_late a b c P Q R first second goes = record {
  later = omega (arith, first.later, second.later);
  rose = λ r. let up : min (b + 1) (2 ^ 64 - 1) ≤ c = second.rose (goes r) in
      let low = first.later in omega (arith, low, up);
}

-- ---- standard output that tells

-- with no fault it was given the report and the text, unless a call on it failed
pub whole_records : (end : Option RunFault) (report text : List ℕ) (old new : SinkSeen)
    → RecordsBy end report text (sink_told old) (sink_told new) → end ≡ None
    → HasPut (report ++ text) old new
whole_records None report text old new records none =
    has_put (report ++ text) old.faults new.faults old.said new.said records
whole_records (Some f) report text old new records none = absurd (cc)
