-- What a lane leaves, line after line.
use Rattle.std.proofs.Common.{◌≡◌, ℕ, List, [], ◌∷◌, ◌++◌, map, Option, Some, None, refl, ap, sym, ◌∙◌, subst, append_assoc, append-nil}
use Rattle.seat_desk.specs.declared.machine.Machine.{Ghosts}
use Rattle.seat_desk.specs.History.{entry}
use Rattle.outside.specs.Told.{TapTold}
use Rattle.run_plan.specs.declared.plan.Speech.{Speech}
use Rattle.exec_journal.specs.declared.call.Call.{Call}
use Rattle.exec_journal.specs.declared.call.Call.TheVariants as call
use Rattle.exec_journal.specs.declared.call.HowEnded.{HowEnded}
use Rattle.exec_journal.specs.declared.reply.Reply.{Reply}
use Rattle.exec_journal.specs.declared.reply.Reply.TheVariants as reply
use Rattle.core_contract.specs.Moves.{Past, History}
use Rattle.core_contract.specs.Laws.{hearing_of, Free, Hears, Over}
use Rattle.tap_lane.specs.declared.ends.EndedTap.{EndedTap}
use Rattle.tap_lane.specs.declared.ends.TapHalt.{TapHalt}
use Rattle.tap_lane.specs.declared.ends.TapHalt.TheVariants as want
use Rattle.tap_lane.specs.Heard.{HasHeard, HeardWhole}
use Rattle.tap_lane.specs.Lane.{Whole, Runs, CutShort, RunsUntil, HeardUntil, LaneEnds, ToHalt}
use Rattle.tap_lane.specs.Working.{IsSameLane, own, number}
use Rattle.tap_lane.specs.declared.lane.TapLane.{TapLane}

-- how the line has ended was told
pub heard_whole : (s : Speech) (lane lane' l : ℕ) (t : TapTold) (how : HowEnded)
    (own own' own'' : History) → lane' ≡ lane → HasHeard s l t (Some how) own own'
    → own'' ≡ own' ++ entry lane' (call.Ended l how) reply.Noted ∷ []
    → HeardWhole s lane l t own own''
heard_whole s lane lane' l t how own own' own'' same h grown = (
  how,
  h.0,
  h.1,
  grown ∙ (ap (λ (k : ℕ). own' ++ entry k (call.Ended l how) reply.Noted ∷ []) same
      ∙ ap (λ (x : History). x ++ entry lane (call.Ended l how) reply.Noted ∷ []) h.2),
)

-- it wasn't told
pub heard_still : (s : Speech) (l : ℕ) (t : TapTold) (how : Option HowEnded)
    (own own' own'' : History) → HasHeard s l t how own own' → own'' ≡ own'
    → HasHeard s l t how own own''
heard_still s l t how own own' own'' h same = (h.0, h.1, same ∙ h.2)

module _ (s : Speech) (lane : ℕ) where
  runs_more : (ts : List (ℕ × TapTold)) (es fs : History) (t : ℕ × TapTold) → Runs s lane ts es
      → Whole s lane t fs → Runs s lane (ts ++ t ∷ []) (es ++ fs)
  runs_more [] es fs t r w =
      (fs, [], ap (λ (x : History). x ++ fs) r ∙ sym (append-nil fs), w, refl)
  runs_more (u ∷ us) es fs t r w = (
    r.0,
    r.1 ++ fs,
    ap (λ (x : History). x ++ fs) r.2 ∙ append_assoc r.0 r.1 fs,
    r.3,
    runs_more us r.1 fs t r.4 w,
  )

  -- its Take
  abbrev took : ℕ → Past
  took l = entry lane call.Take (reply.Line l)

  -- one line more, from its Take to its Ended
  whole_line : (l : ℕ) (t : TapTold) (own own' own'' : History) → own' ≡ own ++ took l ∷ []
      → HeardWhole s lane l t own' own''
      → (es : History) × Whole s lane (l, t) es × (own'' ≡ own ++ es)
  whole_line l t own own' own'' grown e =
      let last : History = entry lane (call.Ended l e.0) reply.Noted ∷ [] in (
        took l ∷ e.1 ++ last,
        record { made = e.1; how = e.0; heard = e.2; are = refl },
        e.3 ∙ (ap (λ (x : History). (x ++ e.1) ++ last) grown
            ∙ (ap (λ (x : History). x ++ last) (append_assoc own (took l ∷ []) e.1)
            ∙ append_assoc own (took l ∷ e.1) last)),
      )

  -- or from its Take on
  cut_line : (how : Option HowEnded) (ts : List (ℕ × TapTold)) (l : ℕ) (t : TapTold)
      (own own' own'' : History) → Runs s lane ts own → own' ≡ own ++ took l ∷ []
      → HasHeard s l t how own' own'' → CutShort s lane how (ts ++ (l, t) ∷ []) own''
  cut_line how ts l t own own' own'' runs grown h = record {
    whole = ts;
    last = (l, t);
    taps_are = refl;
    lines = own;
    runs = runs;
    made = h.0;
    heard = h.1;
    are = h.2 ∙ (ap (λ (x : History). x ++ h.0) grown ∙ append_assoc own (took l ∷ []) h.0);
  }

  cut_by : (w : TapHalt) (ts : List (ℕ × TapTold)) (l : ℕ) (t : TapTold) (own own' own'' : History)
      → Runs s lane ts own → own' ≡ own ++ took l ∷ [] → HeardUntil w s l t own' own''
      → RunsUntil s lane w (ts ++ (l, t) ∷ []) own''
  cut_by want.Line ts l t own own' own'' runs grown h = absurd h
  cut_by want.Answers ts l t own own' own'' runs grown h =
      cut_line None ts l t own own' own'' runs grown h
  cut_by (want.End how) ts l t own own' own'' runs grown h =
      cut_line (Some how) ts l t own own' own'' runs grown h

  map_push : {A B : Type 0} (f : A → B) (xs : List A) (x : A)
      → map f (xs ++ x ∷ []) ≡ map f xs ++ f x ∷ []
  map_push f [] x = refl
  map_push f (y ∷ ys) x = ap (λ zs. f y ∷ zs) (map_push f ys x)

  not_over : (l : ℕ) (own : History) → hearing_of own ≡ Hears l → hearing_of own ≡ Over → ⊥
  not_over l own e f = let x : Hears l ≡ Over = sym e ∙ f in cc

  free_goes_on : (own : History) → hearing_of own ≡ Free → hearing_of own ≡ Over → ⊥
  free_goes_on own e f = let x : Free ≡ Over = sym e ∙ f in cc

  took_by : (first l : ℕ) (own own' : History) → first ≡ lane
      → own' ≡ own ++ entry first call.Take (reply.Line l) ∷ [] → own' ≡ own ++ took l ∷ []
  took_by first l own own' is grown =
      subst (λ (k : ℕ). own' ≡ own ++ entry k call.Take (reply.Line l) ∷ []) is grown

  module _ {T : Type 0} (back : EndedTap T → ℕ × TapTold) where
    taps_more : (taps taps' taps'' : List (EndedTap T)) (x : EndedTap T) → taps' ≡ taps
        → taps'' ≡ taps' ++ x ∷ [] → map back taps'' ≡ map back taps ++ back x ∷ []
    taps_more taps taps' taps'' x same more =
        ap (λ (ys : List (EndedTap T)). map back ys)
        (more ∙ ap (λ (ys : List (EndedTap T)). ys ++ x ∷ []) same)
        ∙ map_push back taps x

    -- one line more was heard to its end
    runs_line : (l : ℕ) (t : TapTold) (taps taps' taps'' : List (EndedTap T)) (x : EndedTap T)
        (own own' own'' : History) (first second : ℕ) → back x ≡ (l, t) → taps' ≡ taps
        → taps'' ≡ taps' ++ x ∷ [] → first ≡ lane → second ≡ lane
        → Runs s lane (map back taps) own
        → own' ≡ own ++ entry first call.Take (reply.Line l) ∷ []
        → HeardWhole s second l t own' own'' → Runs s lane (map back taps'') own''
    runs_line l t taps taps' taps'' x own own' own'' first second is same more f e runs took ended =
        let w = whole_line l t own own' own'' (took_by first l own own' f took)
        (subst (λ (k : ℕ). HeardWhole s k l t own' own'') e ended) in
        let ts = taps_more taps taps' taps'' x same more
        ∙ ap (λ (u : ℕ × TapTold). map back taps ++ u ∷ []) is in
        subst (λ (us : List (ℕ × TapTold)). Runs s lane us own'') (sym ts)
        (subst (λ (h : History). Runs s lane (map back taps ++ (l, t) ∷ []) h) (sym w.2)
        (runs_more (map back taps) own w.0 (l, t) runs w.1))

    -- or not to its end
    halts_line : (w : TapHalt) (l : ℕ) (t : TapTold) (taps taps' taps'' : List (EndedTap T))
        (x : EndedTap T) (own own' own'' : History) (first : ℕ) → back x ≡ (l, t)
        → taps' ≡ taps → taps'' ≡ taps' ++ x ∷ [] → first ≡ lane
        → Runs s lane (map back taps) own
        → own' ≡ own ++ entry first call.Take (reply.Line l) ∷ []
        → HeardUntil w s l t own' own'' → hearing_of own'' ≡ Hears l
        → ToHalt s lane (map back taps'') own'' w
    halts_line w l t taps taps' taps'' x own own' own'' first is same more f runs took heard hears =
        let ts = taps_more taps taps' taps'' x same more
        ∙ ap (λ (u : ℕ × TapTold). map back taps ++ u ∷ []) is in (
          subst (λ (us : List (ℕ × TapTold)). RunsUntil s lane w us own'') (sym ts)
              (cut_by w (map back taps) l t own own' own'' runs (took_by first l own own' f took)
              heard),
          not_over l own'' hears,
        )

    -- or no line more was taken
    halts_free : (taps taps' : List (EndedTap T)) (own own' : History) → taps' ≡ taps
        → own' ≡ own → hearing_of own ≡ Free → Runs s lane (map back taps) own
        → ToHalt s lane (map back taps') own' want.Line
    halts_free taps taps' own own' same still free runs = (
      subst (λ (ys : List (EndedTap T)). Runs s lane (map back ys) own') (sym same)
          (subst (λ (h : History). Runs s lane (map back taps) h) (sym still) runs),
      free_goes_on own' (ap hearing_of still ∙ free),
    )

    -- or the lane was told to stop
    stops : (taps taps' : List (EndedTap T)) (own own' : History) (first : ℕ) → taps' ≡ taps
        → first ≡ lane → own' ≡ own ++ entry first call.Take reply.Stop ∷ []
        → Runs s lane (map back taps) own → LaneEnds s lane None (map back taps') own'
    stops taps taps' own own' first same is stopped runs = (
      own,
      subst (λ (ys : List (EndedTap T)). Runs s lane (map back ys) own) (sym same) runs,
      subst (λ (k : ℕ). own' ≡ own ++ entry k call.Take reply.Stop ∷ []) is stopped,
    )

  -- a lane that was to halt has halted
  halted_now : (w : TapHalt) (first : ℕ) (ts : List (ℕ × TapTold)) (own own' : History)
      → first ≡ lane → ToHalt s lane ts own w
      → own' ≡ own ++ entry first call.Halt reply.Noted ∷ []
      → LaneEnds s lane (Some w) ts own'
  halted_now w first ts own own' is h halted = (
    own,
    h.0,
    subst (λ (k : ℕ). own' ≡ own ++ entry k call.Halt reply.Noted ∷ []) is halted,
  )

-- ---- the same, of the lane as it was at first, before the line, with the line taken, and behind it

module _ {M G Q : Type 0} {g : Ghosts M Call Reply G Q} {T : Type 0}
    (back : EndedTap T → ℕ × TapTold) (x0 x : TapLane M Call Reply G Q g)
    (taps taps' : List (EndedTap T)) (so_far : IsSameLane x0 x) (same : taps' ≡ taps)
    (runs : Runs x0.speech (number x0) (map back taps) (own x)) where
  module _ (x' x'' : TapLane M Call Reply G Q g) (first : IsSameLane x x')
      (taps'' : List (EndedTap T)) (y : EndedTap T) (more : taps'' ≡ taps' ++ y ∷ []) (l : ℕ)
      (t : TapTold) (is : back y ≡ (l, t))
      (took : own x' ≡ own x ++ entry (number x) call.Take (reply.Line l) ∷ []) where
    pub one_heard : HeardWhole x'.speech (number x') l t (own x') (own x'')
        → Runs x0.speech (number x0) (map back taps'') (own x'')
    one_heard heard =
        runs_line x0.speech (number x0) back l t taps taps' taps'' y (own x) (own x') (own x'')
        (number x) (number x') is same more so_far.same.1 (first.same.1 ∙ so_far.same.1) runs took
        (subst (λ (s : Speech). HeardWhole s (number x') l t (own x') (own x''))
        (first.speech ∙ so_far.speech) heard)

    pub one_cut : (w : TapHalt) → HeardUntil w x'.speech l t (own x') (own x'')
        → hearing_of (own x'') ≡ Hears l
        → ToHalt x0.speech (number x0) (map back taps'') (own x'') w
    one_cut w heard hears =
        halts_line x0.speech (number x0) back w l t taps taps' taps'' y (own x) (own x') (own x'')
        (number x) is same more so_far.same.1 runs took
        (subst (λ (s : Speech). HeardUntil w s l t (own x') (own x''))
        (first.speech ∙ so_far.speech) heard) hears

  pub none_taken : (h : History) → h ≡ own x → hearing_of (own x) ≡ Free
      → ToHalt x0.speech (number x0) (map back taps') h want.Line
  none_taken h still free =
      halts_free x0.speech (number x0) back taps taps' (own x) h same still free runs

  pub told_to_stop : (h : History) → h ≡ own x ++ entry (number x) call.Take reply.Stop ∷ []
      → LaneEnds x0.speech (number x0) None (map back taps') h
  told_to_stop h stopped =
      stops x0.speech (number x0) back taps taps' (own x) h (number x) same so_far.same.1 stopped runs
