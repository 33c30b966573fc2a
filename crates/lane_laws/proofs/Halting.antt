-- Which lanes made a Halt.
use Rattle.std.proofs.Common.{◌≡◌, ℕ, ◌<◌, ◌==◌, Bool, true, false, cond, ◌||◌, List, [], ◌∷◌, ◌++◌, None, refl, ap, sym, ◌∙◌, eq-eqb, All}
use Rattle.std.proofs.lemmas.List.Folds.{list_any-append}
use Rattle.std.proofs.lemmas.List.Elements.{All-head, All-tail}
use Rattle.seat_desk.specs.History.{entry, calls_by}
use Rattle.outside.specs.Told.{TapTold}
use Rattle.run_plan.specs.declared.plan.Speech.{Speech}
use Rattle.exec_journal.specs.declared.call.Answer.{Answer}
use Rattle.exec_journal.specs.declared.call.Call.{Call}
use Rattle.exec_journal.specs.declared.call.Call.TheVariants as call
use Rattle.exec_journal.specs.declared.reply.Reply.TheVariants as reply
use Rattle.exec_journal.specs.Entries.{is_halt}
use Rattle.core_contract.specs.Moves.{Past, History}
use Rattle.tap_lane.specs.Heard.{AreAnswers}
use Rattle.tap_lane.specs.Lane.{Whole, Runs, LaneEnds}
use Rattle.lane_laws.specs.Lanes.{WasStopped}
use Rattle.lane_laws.specs.Halts.{has_halt, EndsTellHalts, HaltsAreByLanes}

or_true : (b : Bool) → (b || true) ≡ true
or_true true = refl
or_true false = refl

or_keeps : (a b c : Bool) → (b ≡ true → c ≡ true) → (a || b) ≡ true → (a || c) ≡ true
or_keeps true b c so e = refl
or_keeps false b c so e = so e

neither : (a b : Bool) → (a || b) ≡ false → (a ≡ false) × (b ≡ false)
neither true b e = absurd (cc)
neither false b e = (refl, e)

-- ---- by what lanes leave

halts_both : (es fs : History) → has_halt (es ++ fs) ≡ (has_halt es || has_halt fs)
halts_both es fs = list_any-append (λ (e : Past). is_halt e.call) es fs

none_of_both : (es fs : History) → has_halt es ≡ false → has_halt fs ≡ false
    → has_halt (es ++ fs) ≡ false
none_of_both es fs a b = halts_both es fs ∙ (λ i. a i || b i)

halted_last : (lane : ℕ) (es own : History) → own ≡ es ++ entry lane call.Halt reply.Noted ∷ []
    → has_halt own ≡ true
halted_last lane es own is =
    ap has_halt is ∙ (halts_both es (entry lane call.Halt reply.Noted ∷ []) ∙ or_true (has_halt es))

answers_never_halt : (l : ℕ) (es : History) (xs : List Answer) → AreAnswers l es xs
    → has_halt es ≡ false
answers_never_halt l [] xs a = refl
answers_never_halt l (e ∷ es) [] a = absurd a
answers_never_halt l (e ∷ es) (x ∷ xs) a =
    ap (λ (c : Call). is_halt c || has_halt es) a.0.0 ∙ answers_never_halt l es xs a.1

module _ (s : Speech) (lane : ℕ) where
  whole_never_halts : (t : ℕ × TapTold) (es : History) → Whole s lane t es → has_halt es ≡ false
  whole_never_halts t es w =
      ap has_halt w.are
      ∙ none_of_both w.made (entry lane (call.Ended t.0 w.how) reply.Noted ∷ [])
      (answers_never_halt t.0 w.made w.heard.answers w.heard.are) refl

  runs_never_halt : (ts : List (ℕ × TapTold)) (es : History) → Runs s lane ts es
      → has_halt es ≡ false
  runs_never_halt [] es r = ap has_halt r
  runs_never_halt (t ∷ ts) es r =
      ap has_halt r.2
      ∙ none_of_both r.0 r.1 (whole_never_halts t r.0 r.3) (runs_never_halt ts r.1 r.4)

  tap_stopped : (ts : List (ℕ × TapTold)) (own : History) → LaneEnds s lane None ts own
      → WasStopped own
  tap_stopped ts own e =
      let last : Past = entry lane call.Take reply.Stop in record {
        no_halt = ap has_halt e.2
            ∙ none_of_both e.0 (last ∷ []) (runs_never_halt ts e.0 e.1) refl;
        front = e.0;
        last = last;
        are = e.2;
        stop = refl;
      }

pub ends_tell : EndsTellHalts
ends_tell = record {
  stopped = tap_stopped;
  halted = λ s lane want taps own e. halted_last lane e.0 own e.2;
  proxy_halted = λ means lane cause own deeds e. halted_last lane e.before own e.made;
}

-- ---- by lanes

lane_halts : (lane : ℕ) (h : History) → has_halt (calls_by lane h) ≡ true → has_halt h ≡ true
lane_halts lane [] = λ e. e
lane_halts lane (x ∷ h) = elim (lane == x.lane) as
    (λ mine. has_halt (cond mine (x ∷ calls_by lane h) (calls_by lane h)) ≡ true
    → (is_halt x.call || has_halt h) ≡ true) [
      | true ↦ or_keeps (is_halt x.call) (has_halt (calls_by lane h)) (has_halt h)
          (lane_halts lane h)
      | false ↦ λ e. ap (λ (b : Bool). is_halt x.call || b) (lane_halts lane h e)
          ∙ or_true (is_halt x.call)
    ]

-- the lane made none after the first entry
none_after : (lane : ℕ) (x : Past) (h : History) → has_halt (calls_by lane (x ∷ h)) ≡ false
    → has_halt (calls_by lane h) ≡ false
none_after lane x h = elim (lane == x.lane) as
    (λ mine. has_halt (cond mine (x ∷ calls_by lane h) (calls_by lane h)) ≡ false
    → has_halt (calls_by lane h) ≡ false) [
      | true ↦ λ e. (neither (is_halt x.call) (has_halt (calls_by lane h)) e).1
      | false ↦ λ e. e
    ]

none_first : (x : Past) (h : History) → has_halt (calls_by x.lane (x ∷ h)) ≡ false
    → is_halt x.call ≡ false
none_first x h none = (neither (is_halt x.call) (has_halt (calls_by x.lane h))
    (ap (λ (mine : Bool). has_halt (cond mine (x ∷ calls_by x.lane h) (calls_by x.lane h)))
    (sym (eq-eqb x.lane x.lane refl)) ∙ none)).0

no_lane_halts : (lanes : ℕ) (h : History) → All (λ (e : Past). e.lane < lanes) h
    → ((lane : ℕ) → lane < lanes → has_halt (calls_by lane h) ≡ false) → has_halt h ≡ false
no_lane_halts lanes [] known none = refl
no_lane_halts lanes (x ∷ h) known none =
    let first = none x.lane (All-head (λ (e : Past). e.lane < lanes) x h known) in
    let rest = no_lane_halts lanes h (All-tail (λ (e : Past). e.lane < lanes) x h known)
    (λ lane lt. none_after lane x h (none lane lt)) in
    ap (λ (b : Bool). b || has_halt h) (none_first x h first) ∙ rest

pub by_lanes : HaltsAreByLanes
by_lanes = record { some = lane_halts; none = no_lane_halts }
