-- What a crew leaves is what its lanes have done.
use Rattle.std.proofs.Common.{◌≡◌, ℕ, ℤ, ◌<◌, ◌≤◌, ◌+◌, Bool, List, [], ◌∷◌, length, Option, Some}
use Rattle.std.proofs.Common.{None, ap, sym}
use Rattle.std.proofs.Common.{◌∙◌, subst, arith}
use Rattle.std.specs.declared.snapshot.Snapshot.{Snapshot}
use Rattle.outside.specs.Told.{TapTold, SinkTold}
use Rattle.seat_desk.specs.declared.machine.Machine.{Ghosts}
use Rattle.std.specs.List.{AllByRecursion}
use Rattle.seat_desk.specs.Turns.{NoneFrom}
use Rattle.seat_desk.specs.Passes.{IsSamePass}
use Rattle.json_framing.specs.Cutter.{form_of}
use Rattle.json_framing.specs.declared.cutter.Framing.{Framing}
use Rattle.lane_threads.specs.declared.pair.Either.{Either}
use Rattle.lane_threads.specs.declared.pair.Either.TheVariants.{First, Second}
use Rattle.lane_threads.specs.Lanes.{FactOfRun}
use Rattle.lane_threads.specs.Pairs.{HasRunOfKind}
use Rattle.lane_threads.specs.LaneJobs.{EachLane}
use Rattle.work_queue.specs.declared.queue.Ask.{Ask}
use Rattle.work_queue.specs.declared.queue.Told.{Told}
use Rattle.work_queue.specs.declared.queue.How.{How}
use Rattle.work_queue.specs.declared.queue.Start.{Start}
use Rattle.work_queue.specs.declared.queue.WorkQueue.{WorkQueue}
use Rattle.work_queue.specs.States.{InHand, Read}
use Rattle.work_queue.specs.StateLaws.{Stands, EndsSo}
use Rattle.work_queue.proofs.Proper.{all_more}
use Rattle.work_queue.proofs.Sided.{taken_below}
use Rattle.work_lanes.specs.declared.reading.Reader.{Reader}
use Rattle.work_lanes.specs.declared.reading.ReaderLeft.{ReaderLeft}
use Rattle.work_lanes.specs.declared.handling.Hands.{Hands}
use Rattle.work_lanes.specs.Calls.{after_all, heard_at, most_at, begun_at}
use Rattle.work_lanes.specs.Handles.{Follows, EachFollows}
use Rattle.work_lanes.specs.Serves.{HasRead, piece}
use Rattle.work_lanes.specs.Crews.{AreLanes, finish_by, handlers_in}
use Rattle.work_lanes.proofs.Crewing.{LaneEntry, LanePass, LanesOf, ReaderEnds, crew_ends, lanes_many}
use Rattle.work_lanes.proofs.Ends.{Ends, ends_so}

-- ---- where the sink began

abbrev value_or : {O : Type 0} → O → Option (Snapshot O) → O
value_or other None = other
value_or other (Some s) = s.value

pub same_start : {O X Y K : Type 0} (m m' : WorkQueue O X Y K) (start : O)
    → ◌≡◌ {A = Start O} (record { sink = Some m.outlet.start })
    (record { sink = Some m'.outlet.start })
    → m'.outlet.start.value ≡ start → m.outlet.start.value ≡ start
same_start {O} {X} {Y} {K} m m' start e is =
    ap (λ (q : Start O). value_or start q.sink) e ∙ is

abbrev LeftOf : Type 0 → Type 0 → Type 0
LeftOf T H = Either (ReaderLeft T) H

module _ {T H : Type 0} where
  abbrev left_or : ReaderLeft T → List (LeftOf T H) → ReaderLeft T
  left_or other [] = other
  left_or other (First left ∷ rest) = left
  left_or other (Second left ∷ rest) = other

  abbrev rest_of : List (LeftOf T H) → List (LeftOf T H)
  rest_of [] = []
  rest_of (e ∷ ends) = ends

  pub some_end : (left : ReaderLeft T) (rest : List (LeftOf T H)) → First left ∷ rest ≡ [] → ⊥
  some_end left rest e = cc

  pub never_second : (left : ReaderLeft T) (other : H) (rest rest' : List (LeftOf T H))
      → First left ∷ rest ≡ Second other ∷ rest' → ⊥
  never_second left other rest rest' e = cc

module _ {X Y M G Q : Type 0} {g : Ghosts M (Ask X Y) Told G Q} (number : X → ℤ)
    (cancels : X → Bool) where
  abbrev pub ReadsSo : {T : Type 0} → Framing → (List ℕ → X → Type 0) → (T → TapTold)
      → FactOfRun (Reader T) (ReaderLeft T) (LanePass g)
  ReadsSo f spells tap r p e p' = IsSamePass p p'
      × HasRead (form_of f) spells e.finish (heard_at number cancels p') (tap r.input) (tap e.input)
      × (most_at number cancels p' ≤ r.depth + piece)

  abbrev pub WorksSo : {H : Type 0} → (H → X → Y → H → Type 0) → (H → X → H → Type 0)
      → FactOfRun (Hands H) H (LanePass g)
  WorksSo answers breaks h p e p' = IsSamePass p p'
      × Follows answers breaks h.handler (begun_at number cancels p') e

module _ {X Y M G Q : Type 0} {g : Ghosts M (Ask X Y) Told G Q} {T H : Type 0} (number : X → ℤ)
    (cancels : X → Bool) (f : Framing) (spells : List ℕ → X → Type 0) (tap : T → TapTold)
    (answers : H → X → Y → H → Type 0) (breaks : H → X → H → Type 0) where
  abbrev Runs : FactOfRun (Either (Reader T) (Hands H)) (Either (ReaderLeft T) H)
      (LanePass g)
  Runs = HasRunOfKind (ReadsSo {g = g} number cancels f spells tap)
      (WorksSo {g = g} number cancels answers breaks)

  pub the_crew : (q : Q) (input : T) (depth : ℕ) (xs : List H) (h : List (LaneEntry X Y))
      (lanes : LanesOf T H) (ends : List (Either (ReaderLeft T) H)) → AreLanes input depth xs lanes
      → EachLane Runs q h 0 lanes ends
      → (left : ReaderLeft T) × (rest : List (Either (ReaderLeft T) H))
      × (ends ≡ First left ∷ rest)
      × ReaderEnds number cancels (ReadsSo {g = g} number cancels f spells tap)
      (WorksSo {g = g} number cancels answers breaks) (λ r p e p' h. h.0) (λ w p e p' h. h.0)
      answers breaks (λ w p e p' h. h.1) input depth h left
      × EachFollows answers breaks 1 (after_all number cancels h).taken xs (handlers_in rest)
      × (length rest ≡ length xs)
  the_crew q input depth xs h lanes ends a x =
      crew_ends number cancels (ReadsSo {g = g} number cancels f spells tap)
      (WorksSo {g = g} number cancels answers breaks) (λ r p e p' h. h.0) (λ w p e p' h. h.0)
      answers breaks (λ w p e p' h. h.1) q input depth xs h lanes ends a x

module _ {X Y T H : Type 0} (number : X → ℤ) (cancels : X → Bool) where
  -- whatever was taken was taken by a lane that answers
  taken_by_hands : (input : T) (depth : ℕ) (xs : List H) (h : List (LaneEntry X Y))
      (lanes : LanesOf T H) → AreLanes input depth xs lanes → NoneFrom (length lanes) h
      → AllByRecursion (λ (x : InHand X). x.lane ≤ length xs) (after_all number cancels h).taken
  taken_by_hands input depth xs h lanes a none =
      let many = lanes_many input depth xs lanes a in
      all_more (λ (x : InHand X). x.lane < length lanes) (λ (x : InHand X). x.lane ≤ length xs)
      (λ x lt. omega (arith, lt, many)) (after_all number cancels h).taken
      (taken_below number cancels (length lanes) h none)

module _ {X Y M G Q : Type 0} (g : Ghosts M (Ask X Y) Told G Q) {T H O K : Type 0}
    (number : X → ℤ) (cancels : X → Bool) (Says : X → Bool → Y → Type 0) (written : Y → List ℕ)
    (f : Framing) (spells : List ℕ → X → Type 0) (tap : T → TapTold) (told_of : O → SinkTold)
    (answers : H → X → Y → H → Type 0) (breaks : H → X → H → Type 0) where
  pub serves : (q : Q) (input : T) (depth : ℕ) (xs : List H) (h : List (LaneEntry X Y))
      (lanes : LanesOf T H) (ends rest : List (Either (ReaderLeft T) H)) (news : List H)
      (m : WorkQueue O X Y K) (how : How) (sink start : O) (left : ReaderLeft T)
      → AreLanes input depth xs lanes
      → EachLane (HasRunOfKind (ReadsSo {g = g} number cancels f spells tap)
      (WorksSo {g = g} number cancels answers breaks)) q h 0 lanes ends
      → NoneFrom (length lanes) h → ends ≡ First left ∷ rest → news ≡ handlers_in rest
      → Stands number cancels Says written told_of m (after_all number cancels h)
      → EndsSo m sink how → m.outlet.start.value ≡ start
      → Ends number cancels Says written f spells answers breaks depth (finish_by how left.finish) xs
      news
      (record { tap = tap input; sink = told_of start })
      (record { tap = tap left.input; sink = told_of sink })
  serves q input depth xs h lanes ends rest news m how sink start left a x none is back st e was =
      let r = the_crew number cancels f spells tap answers breaks q input depth xs h lanes ends a x in
      let same : r.0 ≡ left = ap (left_or left) (sym r.2 ∙ is) in
      let others : r.1 ≡ rest = ap rest_of (sym r.2 ∙ is) in
      let read = r.3.ran.1 in
      let each = subst (λ (ys : List H). EachFollows answers breaks 1
      (after_all number cancels h).taken xs ys) (ap handlers_in others ∙ sym back) r.4 in
      let fits : (after_all number cancels h).most ≤ depth + piece =
      let most = ap (λ (o : Read X). o.most) r.3.read in
      let few = r.3.ran.2 in
      let deep = r.3.depth_is in omega (arith, most, few, deep) in
      ends_so number cancels Says written f spells answers breaks told_of depth m
      (after_all number cancels h) how left.finish sink start (heard_at number cancels r.3.after) xs
      news (tap input) (tap left.input) st e was
      (ap (λ (o : Read X). o.heard) r.3.read) fits
      (taken_by_hands number cancels input depth xs h lanes a none, each)
      (subst (λ (i : T). HasRead (form_of f) spells left.finish (heard_at number cancels r.3.after)
      (tap i) (tap left.input)) r.3.is
      (subst (λ (l : ReaderLeft T). HasRead (form_of f) spells l.finish
      (heard_at number cancels r.3.after) (tap r.3.lane.input) (tap l.input)) same read))
