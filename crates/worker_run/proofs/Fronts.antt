-- From what a front has read to what its run keeps.
use Rattle.std.proofs.Common.{◌≡◌, ◌∙◌, ℕ, Bool, true, false, length, List, [], Option, Some, None, Result, Ok, Err, IfSome, arith, ap, refl, subst, sym}
use Rattle.build_report.specs.declared.fault.RunFault.{RunFault}
use Rattle.build_report.specs.declared.fault.RunFault.TheVariants as fault
use Rattle.build_report.specs.declared.fault.Stage.TheVariants as stage
use Rattle.core_contract.specs.Discipline.{Discipline}
use Rattle.build_report.specs.declared.fault.Stage.{Stage}
use Rattle.lane_runs.specs.Paced.{HasPaced, MayPace}
use Rattle.outside.specs.Causes.{Counts}
use Rattle.outside.specs.Told.{FloorTold, SinkTold}
use Rattle.outside.specs.declared.floor.FloorRead.{FloorRead}
use Rattle.run_loading.specs.Reads.{Reads, UnlessBefore}
use Rattle.run_tasks.specs.declared.task.Task.{Task}
use Rattle.worker_run.specs.Ends.{HasCourseBy, HasLed, LeadsTo, Puts, TellsTask, UnlessEarly}
use Rattle.worker_run.specs.Fronts.{HasReadBy, IsOfReading, IsReady, PacesWhere}
use Rattle.worker_run.specs.Headline.{UnlessRun}
use Rattle.worker_run.specs.Histories.{history_of}
use Rattle.worker_run.specs.Pacers.{pacer_of, seat_pacer}
use Rattle.worker_run.specs.Pacing.{PacesRun, tick_lane_of}
use Rattle.worker_run.specs.Seen.{EndedTold}
use Rattle.worker_run.specs.declared.front.NoRun.{NoRun}
use Rattle.worker_run.specs.declared.front.NoRun.TheVariants as no

-- ---- the reads

module _ {B : Type 0} (leads : List FloorRead → Result (Task × B) NoRun → Type 0)
    (before mid : FloorTold) where
  -- to a task
  pub led_to : (t : Task) (basis : B) → Reads before mid (λ reads. leads reads (Ok (t, basis)))
      → Reads before mid (λ reads. HasReadBy leads basis reads (Ok (t, basis)))
  led_to t basis h = (h.0, h.1, h.2, (h.3, refl))

  -- or to a fault
  abbrev Was : RunFault → Type 0
  Was f = Reads before mid (λ reads. leads reads (Err (no.Fault f)))

  abbrev Is : B → RunFault → Type 0
  Is basis f = Reads before mid (λ reads. HasReadBy leads basis reads (Err f))

  failed : (basis : B) (f : RunFault) → Was f → Is basis f
  failed basis f h = (h.0, h.1, h.2, (h.3, tt))

  pub led_off : (basis : B) (f : RunFault) → UnlessBefore (Some f) (Was f)
      → UnlessBefore (Some f) (Is basis f)
  led_off basis (fault.NoMemory when) h = h
  led_off basis fault.SinkFailed h = failed basis fault.SinkFailed h
  led_off basis fault.Words h = failed basis fault.Words h
  led_off basis (fault.List x) h = failed basis (fault.List x) h
  led_off basis (fault.Flags a x) h = failed basis (fault.Flags a x) h
  led_off basis (fault.Absent at) h = failed basis (fault.Absent at) h
  led_off basis (fault.FloorFailed at) h = failed basis (fault.FloorFailed at) h

-- what led so, said otherwise
unless_early : {P Q : Type 0} (f : Option RunFault) → (P → Q) → UnlessEarly f P → UnlessEarly f Q
unless_early (Some (fault.NoMemory stage.Before)) so p = tt
unless_early f so p = so p

module _ {X Y : Type 0} (course : List FloorRead → Result X RunFault → Type 0)
    (other : List FloorRead → Result Y RunFault → Type 0) (of_x : X → Task) (of_y : Y → Task)
    (before : FloorTold) (end : EndedTold) where
  pub course_by : ((reads : List FloorRead) (made : Result X RunFault) → course reads made
      → (also : Result Y RunFault) × other reads also
      × (LeadsTo of_x made end.fault end.task → LeadsTo of_y also end.fault end.task))
      → HasCourseBy course of_x before end → HasCourseBy other of_y before end
  course_by so h = unless_early end.fault (λ r.
      let s = so r.0 r.3.0 r.3.1 in (r.0, r.1, r.2, (s.0, s.1, s.2 r.3.2))) h

-- ---- a fault ended the reads

-- by a fault that isn't the sink's
module _ {X : Type 0} (course : List FloorRead → Result X RunFault → Type 0) (task_of : X → Task)
    (before mid : FloorTold) where
  abbrev Led : RunFault → Type 0
  Led f = UnlessBefore (Some f) (Reads before mid (λ reads. course reads (Err f)))

  abbrev To : RunFault → Type 0
  To f = UnlessEarly (Some f) (Reads before mid (HasLed course task_of (Some f) None))

  led : (f : RunFault) → Reads before mid (λ reads. course reads (Err f))
      → Reads before mid (HasLed course task_of (Some f) None)
  led f h = (h.0, h.1, h.2, (Err f, h.3, (refl, refl)))

  pub fault_course : (f : RunFault) → Led f → To f
  fault_course (fault.NoMemory when) h = subst (λ (s : Stage). To (fault.NoMemory s)) (sym h) tt
  fault_course fault.SinkFailed h = led fault.SinkFailed h
  fault_course fault.Words h = led fault.Words h
  fault_course (fault.List x) h = led (fault.List x) h
  fault_course (fault.Flags a x) h = led (fault.Flags a x) h
  fault_course (fault.Absent at) h = led (fault.Absent at) h
  fault_course (fault.FloorFailed at) h = led (fault.FloorFailed at) h

  pub fault_told : (f : RunFault) → IsOfReading (Some f) → Led f → TellsTask (Some f) None
  fault_told (fault.NoMemory when) of h =
      subst (λ (s : Stage). TellsTask (Some (fault.NoMemory s)) None) (sym h) refl
  fault_told fault.SinkFailed of h = absurd of
  fault_told fault.Words of h = refl
  fault_told (fault.List x) of h = refl
  fault_told (fault.Flags a x) of h = refl
  fault_told (fault.Absent at) of h = refl
  fault_told (fault.FloorFailed at) of h = refl

  pub fault_puts : (f : RunFault) (sink : SinkTold) → IsOfReading (Some f) → Led f
      → Puts (Some f) [] sink sink
  fault_puts (fault.NoMemory when) sink of h =
      subst (λ (s : Stage). Puts (Some (fault.NoMemory s)) [] sink sink) (sym h) refl
  fault_puts fault.SinkFailed sink of h = absurd of
  fault_puts fault.Words sink of h = refl
  fault_puts (fault.List x) sink of h = refl
  fault_puts (fault.Flags a x) sink of h = refl
  fault_puts (fault.Absent at) sink of h = refl
  fault_puts (fault.FloorFailed at) sink of h = refl

-- such a fault leaves the sink as it was
not_sink : (f : RunFault) → IsOfReading (Some f) → Some f ≡ Some fault.SinkFailed → ⊥
not_sink fault.SinkFailed of e = of
not_sink fault.Words of e = absurd (cc)
not_sink (fault.NoMemory when) of e = absurd (cc)
not_sink (fault.Absent at) of e = absurd (cc)
not_sink (fault.FloorFailed at) of e = absurd (cc)
not_sink (fault.List x) of e = absurd (cc)
not_sink (fault.Flags a x) of e = absurd (cc)

pub fault_sink : (f : RunFault) (n : ℕ) → IsOfReading (Some f)
    → Counts n n (Some f ≡ Some fault.SinkFailed)
fault_sink f n of = record { later = omega arith; rose = λ e. absurd (not_sink f of e) }

-- ---- the pacer

-- a lane of Ticks that is there may run
pub may_pace : {W : Type 0} (q : Discipline) (t : Task) (makes : Bool) (pacer : W)
    → IsReady q t makes → MayPace q (length t.speeches.items) (seat_pacer makes pacer).0
may_pace q t false pacer ready = tt
may_pace q t true pacer ready = subst (λ (k : ℕ). MayPace q k (Some pacer))
    (sym ready.fits.served) (ready.beside refl, ready.ticks)

-- of its pacers before and after
module _ {W : Type 0} (told : W → ℕ) (before : W) (end : EndedTold) where
  lost : PacesRun told (Some before) None end → ⊥
  lost paces = by end.task paces.run paces.none
    where
      by : (o : Option Task)
          → IfSome o (λ t. HasPaced told (tick_lane_of t) (Some before) None (history_of end.left.journal))
          → UnlessRun o (None ≡ Some before) → ⊥
      by None run none = cc
      by (Some t) run none = run

  found : (after : W) → PacesRun told None (Some after) end → ⊥
  found after paces = by end.task paces.run paces.none
    where
      by : (o : Option Task)
          → IfSome o (λ t. HasPaced told (tick_lane_of t) None (Some after) (history_of end.left.journal))
          → UnlessRun o (Some after ≡ None) → ⊥
      by None run none = cc
      by (Some t) run none = run

  -- it is given back
  is_back : (makes : Bool) (lane : Option W)
      → PacesRun told (seat_pacer makes before).0 lane end
      → None ≡ pacer_of lane (seat_pacer makes before).1 → ⊥
  is_back true None paces e = lost paces
  is_back true (Some after) paces e = absurd (cc)
  is_back false None paces e = absurd (cc)
  is_back false (Some after) paces e = found after paces

  paces_where : (makes : Bool) (lane : Option W) (after : W)
      → PacesRun told (seat_pacer makes before).0 lane end
      → Some after ≡ pacer_of lane (seat_pacer makes before).1 → PacesWhere makes told before after end
  paces_where true None after paces e = absurd (lost paces)
  paces_where true (Some lane) after paces e =
      subst (λ (w : W). PacesRun told (Some before) (Some w) end) (let is : lane ≡ after = cc in is) paces
  paces_where false None after paces e = let is : after ≡ before = cc in is
  paces_where false (Some lane) after paces e = absurd (found lane paces)

  -- as they were put aside and given back
  module _ (makes : Bool) (lane o : Option W) (seats : Option W × Option W)
      (is : seats ≡ seat_pacer makes before) (paces : PacesRun told seats.0 lane end)
      (gave : o ≡ pacer_of lane seats.1) where
    paces_seated : PacesRun told (seat_pacer makes before).0 lane end
    paces_seated = subst (λ (s : Option W × Option W). PacesRun told s.0 lane end) is paces

    gave_seated : o ≡ pacer_of lane (seat_pacer makes before).1
    gave_seated = gave ∙ ap (λ (s : Option W × Option W). pacer_of lane s.1) is

    pub pacer_is_back : o ≡ None → ⊥
    pacer_is_back none = is_back makes lane paces_seated (sym none ∙ gave_seated)

    pub paces_on : (after : W) → o ≡ Some after → PacesWhere makes told before after end
    paces_on after some = paces_where makes lane after paces_seated (sym some ∙ gave_seated)

  -- no lane was started
  pub unstarted : (makes : Bool) → end.task ≡ None → PacesWhere makes told before before end
  unstarted false none = refl
  unstarted true none = record {
    run = subst (λ (o : Option Task). IfSome o (λ t. HasPaced told (tick_lane_of t) (Some before)
        (Some before) (history_of end.left.journal))) (sym none) tt;
    none = subst (λ (o : Option Task). UnlessRun o (Some before ≡ Some before)) (sym none) refl;
  }
