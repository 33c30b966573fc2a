-- From the slots of a crew to its one history.
use Rattle.std.proofs.Common.{◌≡◌, ℕ, suc, ◌+◌, ◌<◌, ◌≤◌, List, [], ◌∷◌, length, refl, sym, ◌∙◌, ap, subst, arith, All}
use Rattle.std.specs.List.{AllZip}
use Rattle.std.proofs.lemmas.List.Elements.{All-nil, All-cons}
use Rattle.seat_desk.specs.declared.machine.Machine.{Ghosts}
use Rattle.plain_values.specs.declared.entry.Entry.{Entry}
use Rattle.seat_desk.specs.declared.desk.Pass.{Pass}
use Rattle.seat_desk.specs.declared.desk.Desk.{Desk}
use Rattle.seat_desk.specs.declared.view.Joined.{Joined}
use Rattle.seat_desk.specs.History.{StartsWith, calls_by}
use Rattle.seat_desk.specs.Turns.{AllJoined}
use Rattle.seat_desk.specs.Passes.{mine, seen}
use Rattle.lane_threads.specs.declared.job.Slot.{Slot}
use Rattle.lane_threads.specs.declared.job.Slot.TheVariants.{Ready, Ended}
use Rattle.lane_threads.specs.declared.lane_job.Shared.{Shared}
use Rattle.lane_threads.specs.declared.lane_job.LaneJob.{LaneJob}
use Rattle.lane_threads.specs.declared.lane_job.LaneDone.{LaneDone}
use Rattle.lane_threads.specs.Jobs.{CanRun, HasEnded}
use Rattle.lane_threads.specs.LaneJobs.{MayRun, MayRunInOrder, KeepsPasses, IsJobOf, JobsFrom, HasItsEnd, IsHanded, HandedOver, LaneEnds, EachLane}
use Rattle.lane_threads.proofs.Enlisting.{starts}

module _ {M C R G Q : Type 0} {g : Ghosts M C R G Q} {L E : Type 0} where
  -- ---- before they run

  abbrev pub Can : (L → Desk M C R G Q → ℕ → Pass M C R G Q g → Type 0) → Shared M C R G Q → Slot (LaneJob M L C R G Q g) (LaneDone M E C R G Q g) → Type 0
  Can may = CanRun (λ (h : Shared M C R G Q) (s : LaneJob M L C R G Q g). may s.lane h.desk h.bells s.pass)

  may_run : (may : L → Desk M C R G Q → ℕ → Pass M C R G Q g → Type 0) (shared : Shared M C R G Q) (q : Q) (k : ℕ) (lane : L) (slot : Slot (LaneJob M L C R G Q g) (LaneDone M E C R G Q g))
      → IsJobOf shared.desk q k lane slot → MayRun may q k lane → k < shared.bells → Can may shared slot
  may_run may shared q k lane (Ready job) here fit bell =
      subst (λ (l : L). may l shared.desk shared.bells job.pass) (sym here.0) (fit shared.desk shared.bells job.pass here.1 here.2 here.3 bell here.4)
  may_run may shared q k lane (Ended done) here fit bell = absurd here

  pub all_may_run : (may : L → Desk M C R G Q → ℕ → Pass M C R G Q g → Type 0) (shared : Shared M C R G Q) (q : Q) (k : ℕ) (lanes : List L) (slots : List (Slot (LaneJob M L C R G Q g) (LaneDone M E C R G Q g)))
      → JobsFrom shared.desk q k lanes slots → MayRunInOrder may q k lanes → k + length lanes ≤ shared.bells → All (Can may shared) slots
  all_may_run may shared q k [] [] jobs fit bells = All-nil (Can may shared)
  all_may_run may shared q k (l ∷ ls) (p ∷ ps) jobs fit bells =
      All-cons (Can may shared) p ps (may_run may shared q k l p jobs.0 fit.0 (omega arith)) (all_may_run may shared q (k + 1) ls ps jobs.1 fit.1 (omega arith))
  all_may_run may shared q k [] (p ∷ ps) jobs fit bells = absurd jobs
  all_may_run may shared q k (l ∷ ls) [] jobs fit bells = absurd jobs

  -- ---- after they ran

  abbrev pub Ran : (L → Pass M C R G Q g → E → Pass M C R G Q g → Type 0) → Shared M C R G Q → Slot (LaneJob M L C R G Q g) (LaneDone M E C R G Q g) → Slot (LaneJob M L C R G Q g) (LaneDone M E C R G Q g) → Type 0
  Ran has = HasEnded (λ (h : Shared M C R G Q) (s : LaneJob M L C R G Q g) (r : LaneDone M E C R G Q g). has s.lane s.pass r.end r.pass)

  done : (has : L → Pass M C R G Q g → E → Pass M C R G Q g → Type 0) (keeps : KeepsPasses has) (shared : Shared M C R G Q) (q : Q) (k : ℕ) (lane : L) (p p' : Slot (LaneJob M L C R G Q g) (LaneDone M E C R G Q g))
      → IsJobOf shared.desk q k lane p → Ran has shared p p' → HasItsEnd shared.desk p'
  done has keeps shared q k lane (Ready job) (Ended end) here ran = (keeps job.lane job.pass end.end end.pass ran).0 ∙ here.1
  done has keeps shared q k lane (Ready job) (Ready other) here ran = absurd ran
  done has keeps shared q k lane (Ended end) p' here ran = absurd here

  pub all_have_ends : (has : L → Pass M C R G Q g → E → Pass M C R G Q g → Type 0) (keeps : KeepsPasses has) (shared : Shared M C R G Q) (q : Q) (k : ℕ) (lanes : List L) (slots slots' : List (Slot (LaneJob M L C R G Q g) (LaneDone M E C R G Q g)))
      → JobsFrom shared.desk q k lanes slots → AllZip (Ran has shared) slots slots' → All (HasItsEnd shared.desk) slots' × (length slots' ≡ length lanes)
  all_have_ends has keeps shared q k [] [] [] jobs ran = (All-nil (HasItsEnd shared.desk), refl)
  all_have_ends has keeps shared q k (l ∷ ls) (p ∷ ps) (p' ∷ ps') jobs ran =
      let more = all_have_ends has keeps shared q (k + 1) ls ps ps' jobs.1 ran.1 in
      (All-cons (HasItsEnd shared.desk) p' ps' (done has keeps shared q k l p p' jobs.0 ran.0) more.0, ap suc more.1)
  all_have_ends has keeps shared q k [] (p ∷ ps) slots' jobs ran = absurd jobs
  all_have_ends has keeps shared q k (l ∷ ls) [] slots' jobs ran = absurd jobs
  all_have_ends has keeps shared q k [] [] (p' ∷ ps') jobs ran = absurd ran
  all_have_ends has keeps shared q k (l ∷ ls) (p ∷ ps) [] jobs ran = absurd ran

  pub as_many_joined : (h : List (Entry C R)) (slots : List (Slot (LaneJob M L C R G Q g) (LaneDone M E C R G Q g))) (ends : List E) (js : List (Joined C R))
      → HandedOver h slots ends js → length js ≡ length slots
  as_many_joined h [] [] [] x = refl
  as_many_joined h (p ∷ ps) (e ∷ es) (j ∷ js) x = ap suc (as_many_joined h ps es js x.1)
  as_many_joined h [] [] (j ∷ js) x = absurd x
  as_many_joined h [] (e ∷ es) js x = absurd x
  as_many_joined h (p ∷ ps) [] js x = absurd x
  as_many_joined h (p ∷ ps) (e ∷ es) [] x = absurd x

  lane_ends : (has : L → Pass M C R G Q g → E → Pass M C R G Q g → Type 0) (keeps : KeepsPasses has) (shared : Shared M C R G Q) (q : Q) (h history : List (Entry C R)) (k : ℕ) (lane : L) (p p' : Slot (LaneJob M L C R G Q g) (LaneDone M E C R G Q g)) (end : E) (j : Joined C R)
      → IsJobOf shared.desk q k lane p → Ran has shared p p' → IsHanded h p' end j → calls_by j.lane history ≡ j.calls → StartsWith history h
      → LaneEnds has q history k lane end
  lane_ends has keeps shared q h history k lane (Ready job) (Ended done) end j here ran handed calls begins =
      let same = keeps job.lane job.pass done.end done.pass ran in
      record {
        before = job.pass;
        after = done.pass;
        fresh = here.2;
        number = here.3;
        by = here.4;
        same = same;
        ran = subst (λ (e : E). has lane job.pass e done.pass) handed.0 (subst (λ (l : L). has l job.pass done.end done.pass) here.0 ran);
        saw = starts h history (seen done.pass) handed.2 begins;
        made = sym (subst (λ (n : ℕ). calls_by n history ≡ mine done.pass) (same.1 ∙ here.3)
            (subst (λ (i : Joined C R). calls_by i.lane history ≡ i.calls) handed.1 calls));
      }
  lane_ends has keeps shared q h history k lane (Ready job) (Ready other) end j here ran handed calls begins = absurd ran
  lane_ends has keeps shared q h history k lane (Ended done) p' end j here ran handed calls begins = absurd here

  pub each_lane : (has : L → Pass M C R G Q g → E → Pass M C R G Q g → Type 0) (keeps : KeepsPasses has) (shared : Shared M C R G Q) (q : Q) (h history : List (Entry C R)) (k : ℕ) (lanes : List L) (slots slots' : List (Slot (LaneJob M L C R G Q g) (LaneDone M E C R G Q g))) (ends : List E) (js : List (Joined C R))
      → JobsFrom shared.desk q k lanes slots → AllZip (Ran has shared) slots slots' → HandedOver h slots' ends js → AllJoined history js → StartsWith history h
      → EachLane has q history k lanes ends
  each_lane has keeps shared q h history k [] [] [] [] js jobs ran handed all begins = tt
  each_lane has keeps shared q h history k (l ∷ ls) (p ∷ ps) (p' ∷ ps') (e ∷ es) (j ∷ js) jobs ran handed all begins = (
    lane_ends has keeps shared q h history k l p p' e j jobs.0 ran.0 handed.0 all.0 begins,
    each_lane has keeps shared q h history (k + 1) ls ps ps' es js jobs.1 ran.1 handed.1 all.1 begins,
  )
  each_lane has keeps shared q h history k [] [] [] (e ∷ es) js jobs ran handed all begins = absurd handed
  each_lane has keeps shared q h history k [] [] (p' ∷ ps') ends js jobs ran handed all begins = absurd ran
  each_lane has keeps shared q h history k [] (p ∷ ps) slots' ends js jobs ran handed all begins = absurd jobs
  each_lane has keeps shared q h history k (l ∷ ls) [] slots' ends js jobs ran handed all begins = absurd jobs
  each_lane has keeps shared q h history k (l ∷ ls) (p ∷ ps) [] ends js jobs ran handed all begins = absurd ran
  each_lane has keeps shared q h history k (l ∷ ls) (p ∷ ps) (p' ∷ ps') [] js jobs ran handed all begins = absurd handed
  each_lane has keeps shared q h history k (l ∷ ls) (p ∷ ps) (p' ∷ ps') (e ∷ es) [] jobs ran handed all begins = absurd handed
