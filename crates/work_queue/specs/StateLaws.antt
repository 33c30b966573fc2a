-- Laws of the states of a work queue.
use Rattle.std.proofs.Common.{◌≡◌, ◌⊎◌, ℕ, ℤ, ◌+◌, ◌≤◌, ◌==◌, ◌||◌, Bool, true, false, cond}
use Rattle.std.proofs.Common.{List, [], ◌∷◌, ◌++◌, length, map, Option, Some, None, refl, ap, sym, ◌∙◌}
use Rattle.std.proofs.Common.{subst, arith, eq-eqb, ne_eqb}
use mathlib.Core.Logic.{dite}
use native.Mathlib.Decide.{ℕ_discrete}
use Rattle.std.specs.List.{fold}
use Rattle.std.proofs.lemmas.List.Sums.{fold-append}
use Rattle.outside.specs.Told.{SinkTold}
use Rattle.plain_values.specs.declared.entry.Entry.{Entry}
use Rattle.seat_desk.specs.History.{calls_by}
use Rattle.work_queue.specs.declared.rows.Asked.{Asked}
use Rattle.work_queue.specs.declared.rows.Hand.{Hand}
use Rattle.work_queue.specs.declared.queue.WorkQueue.{WorkQueue}
use Rattle.work_queue.specs.declared.queue.Ask.{Ask}
use Rattle.work_queue.specs.declared.queue.Ask.TheVariants as ask
use Rattle.work_queue.specs.declared.queue.Told.{Told}
use Rattle.work_queue.specs.declared.queue.Told.TheVariants as told
use Rattle.work_queue.specs.declared.queue.Load.{Load}
use Rattle.work_queue.specs.declared.queue.How.{How}
use Rattle.work_queue.specs.declared.queue.How.TheVariants as how
use Rattle.work_queue.specs.Rows.{hand_of}
use Rattle.work_queue.specs.States.{State, Task, InHand, first, state_then, state_of, moved}
use Rattle.work_queue.specs.States.{begun, roomed, heard_by, taken_by, answered_by, task_at, hands_without}
use Rattle.work_queue.specs.States.{task_marked, in_hand_marked, answer_to, is_short, is_kept}
use Rattle.work_queue.specs.States.{IsPaid, MayBeShort, IsProper, GoesIn, ComesOut, PutSo, put_by}

-- ---- a queue and its state

module _ {X : Type 0} (number : X → ℤ) where
  abbrev pub row_of : InHand X → Hand
  row_of h = hand_of number h.lane h.task.work

module _ {X Y : Type 0} (number : X → ℤ) where
  -- these rows are what waits and what is in hand
  abbrev pub RowsAre : State X Y → List (Asked X) → List Hand → Type 0
  RowsAre s ws hs = (ws ≡ map (λ t. t.work) s.waiting) × (hs ≡ map (row_of number) s.hands)

module _ {O X Y K : Type 0} (number : X → ℤ) (cancels : X → Bool) (Says : X → Bool → Y → Type 0)
    (written : Y → List ℕ) (told_of : O → SinkTold) where
  -- the queue is in this state, and all that was answered was put
  pub record Stands (m : WorkQueue O X Y K) (s : State X Y) : Type 0 where
    pub rows : RowsAre number s m.rows.waiting.items m.rows.hands.items
    pub put : PutSo m.outlet.has_failed (put_by number cancels Says written s.replies)
        (told_of m.outlet.start.value) (told_of m.outlet.sink)
    pub proper : IsProper number cancels Says s

  -- The reply is that of the state in which the queue was, which has moved where it is kept; or all
  -- is over, and it has not moved.
  abbrev pub TurnsSo : WorkQueue O X Y K → ℕ → Ask X Y → Option (Load X) → Told → Option (Load X)
      → WorkQueue O X Y K → Type 0
  TurnsSo m lane call put reply good m' =
      (m'.outlet.start ≡ m.outlet.start)
      × ((s : State X Y) → Stands m s → GoesIn number cancels Says written s lane call put
      → ((reply ≡ answer_to s lane call) ⊎ ((is_short reply ≡ true) × MayBeShort call))
      × Stands m' (cond (is_kept call reply) (moved number cancels s lane call) s)
      × ComesOut s call reply good)

module _ {X Y : Type 0} where
  abbrev pub HearOnly : Ask X Y → Type 0
  HearOnly (ask.Hear request) = Unit {0}
  HearOnly (ask.Room depth) = ⊥
  HearOnly ask.Take = ⊥
  HearOnly ask.IsCancelled = ⊥
  HearOnly (ask.Answer response) = ⊥
  HearOnly ask.Close = ⊥
  HearOnly ask.Halt = ⊥

  -- it asks whether there is room below this depth
  abbrev pub RoomOnly : ℕ → Ask X Y → Type 0
  RoomOnly n (ask.Hear request) = ⊥
  RoomOnly n (ask.Room depth) = depth ≡ n
  RoomOnly n ask.Take = ⊥
  RoomOnly n ask.IsCancelled = ⊥
  RoomOnly n (ask.Answer response) = ⊥
  RoomOnly n ask.Close = ⊥
  RoomOnly n ask.Halt = ⊥

  abbrev pub TakeOnly : Ask X Y → Type 0
  TakeOnly (ask.Hear request) = ⊥
  TakeOnly (ask.Room depth) = ⊥
  TakeOnly ask.Take = Unit {0}
  TakeOnly ask.IsCancelled = ⊥
  TakeOnly (ask.Answer response) = ⊥
  TakeOnly ask.Close = ⊥
  TakeOnly ask.Halt = ⊥

  abbrev pub LookOnly : Ask X Y → Type 0
  LookOnly (ask.Hear request) = ⊥
  LookOnly (ask.Room depth) = ⊥
  LookOnly ask.Take = ⊥
  LookOnly ask.IsCancelled = Unit {0}
  LookOnly (ask.Answer response) = ⊥
  LookOnly ask.Close = ⊥
  LookOnly ask.Halt = ⊥

  abbrev pub AnswerOnly : Ask X Y → Type 0
  AnswerOnly (ask.Hear request) = ⊥
  AnswerOnly (ask.Room depth) = ⊥
  AnswerOnly ask.Take = ⊥
  AnswerOnly ask.IsCancelled = ⊥
  AnswerOnly (ask.Answer response) = Unit {0}
  AnswerOnly ask.Close = ⊥
  AnswerOnly ask.Halt = ⊥

false_not_true : false ≡ true → ⊥
false_not_true e = cc

pub zero_fits : 0 ≤ 0 + 2
zero_fits = omega arith

-- ---- a new queue

module _ {O X Y K : Type 0} where
  -- nothing waits, and nothing is in hand
  abbrev pub IsNew : WorkQueue O X Y K → Type 0
  IsNew m = (m.rows.waiting.items ≡ []) × (m.rows.hands.items ≡ [])

  -- the sink, and how all is over
  abbrev pub EndsSo : WorkQueue O X Y K → O → How → Type 0
  EndsSo m sink how.Failed = (m.outlet.sink ≡ sink) × (m.outlet.has_failed ≡ true)
  EndsSo m sink how.Halted = (m.outlet.sink ≡ sink) × (m.outlet.has_failed ≡ false)
      × (m.signs.is_halted ≡ false → IsNew m → ⊥)
  EndsSo m sink how.Whole = (m.outlet.sink ≡ sink) × (m.outlet.has_failed ≡ false) × IsNew m

-- ---- short and paid

module _ {X Y : Type 0} where
  pub short_not_kept : (c : Ask X Y) (r : Told) → is_short r ≡ true → is_kept c r ≡ false
  short_not_kept c told.Done h = absurd (false_not_true h)
  short_not_kept c told.Open h = absurd (false_not_true h)
  short_not_kept c told.Idle h = absurd (false_not_true h)
  short_not_kept (ask.Hear request) told.Closed h = refl
  short_not_kept (ask.Room depth) told.Closed h = refl
  short_not_kept ask.Take told.Closed h = refl
  short_not_kept ask.IsCancelled told.Closed h = refl
  short_not_kept (ask.Answer response) told.Closed h = refl
  short_not_kept ask.Close told.Closed h = refl
  short_not_kept ask.Halt told.Closed h = refl

  pub paid_not_short : (s : State X Y) (lane : ℕ) (c : Ask X Y) → IsPaid c
      → (MayBeShort c → ⊥) × (is_short (answer_to s lane c) ≡ false)
  paid_not_short s lane (ask.Hear request) p = absurd p
  paid_not_short s lane (ask.Room depth) p = absurd p
  paid_not_short s lane ask.Take p = absurd p
  paid_not_short s lane ask.IsCancelled p = absurd p
  paid_not_short s lane (ask.Answer response) p = absurd p
  paid_not_short s lane ask.Close p = (λ m. m, refl)
  paid_not_short s lane ask.Halt p = (λ m. m, refl)

  pub paid_not_kept : (c : Ask X Y) (r : Told) → IsPaid c → is_kept c r ≡ true → ⊥
  paid_not_kept (ask.Hear request) r p k = p
  paid_not_kept (ask.Room depth) r p k = p
  paid_not_kept ask.Take r p k = p
  paid_not_kept ask.IsCancelled r p k = p
  paid_not_kept (ask.Answer response) r p k = p
  paid_not_kept ask.Close r p k = false_not_true k
  paid_not_kept ask.Halt r p k = false_not_true k

-- ---- what a lane has in hand stays there while others call

module _ {X : Type 0} where
  -- the same request in the same hand, which may have been cancelled
  abbrev pub IsStill : Task X → Task X → Type 0
  IsStill t t' =
      (t'.work.request ≡ t.work.request) × (t.work.cancelled ≡ true → t'.work.cancelled ≡ true)
      × (t'.was ≡ t.was)

  abbrev pub HasStill : ℕ → Task X → List (InHand X) → Type 0
  HasStill lane t hs = (t' : Task X) × (task_at lane hs ≡ Some t') × IsStill t t'

  none_some : (t : Task X) → None ≡ Some t → ⊥
  none_some t e = cc

  abbrev some_or : Task X → Option (Task X) → Task X
  some_or other (Some t) = t
  some_or other None = other

  pub other_at : (lane other : ℕ) (hs : List (InHand X)) → (other == lane) ≡ false
      → task_at lane (hands_without other hs) ≡ task_at lane hs
  other_at lane other [] n = refl
  other_at lane other (h ∷ hs) n = dite (ℕ_discrete h.lane other)
      (λ same.
      let b : (h.lane == other) ≡ true = eq-eqb h.lane other same in
      let c : (h.lane == lane) ≡ false = subst (λ (k : ℕ). (k == lane) ≡ false) (sym same) n in
      ap (λ (x : Bool). task_at lane (cond x hs (h ∷ hands_without other hs))) b
      ∙ sym (ap (λ (x : Bool). cond x (Some h.task) (task_at lane hs)) c))
      (λ apart.
      let b : (h.lane == other) ≡ false = ne_eqb h.lane other apart in
      ap (λ (x : Bool). task_at lane (cond x hs (h ∷ hands_without other hs))) b
      ∙ ap (λ (x : Option (Task X)). cond (h.lane == lane) (Some h.task) x)
      (other_at lane other hs n))

or_true : (a b : Bool) → a ≡ true → (a || b) ≡ true
or_true a b e = ap (λ (x : Bool). x || b) e

module _ {X : Type 0} (number : X → ℤ) where
  marked_here : (b : Bool) (lane : ℕ) (n : ℤ) (h : InHand X) (hs : List (InHand X)) (t : Task X)
      → cond b (Some h.task) (task_at lane hs) ≡ Some t
      → (task_at lane hs ≡ Some t
      → HasStill lane t (map (in_hand_marked number n) hs))
      → (t' : Task X)
      × (cond b (Some (task_marked number n h.task))
      (task_at lane (map (in_hand_marked number n) hs)) ≡ Some t') × IsStill t t'
  marked_here true lane n h hs t e more = (
    task_marked number n h.task,
    refl,
    let is : h.task ≡ t = ap (some_or t) e in (
      ap (λ (x : Task X). x.work.request) is,
      λ c. or_true h.task.work.cancelled _ (ap (λ (x : Task X). x.work.cancelled) is ∙ c),
      ap (λ (x : Task X). x.was) is,
    ),
  )
  marked_here false lane n h hs t e more = more e

  marked_still : (lane : ℕ) (n : ℤ) (hs : List (InHand X)) (t : Task X)
      → task_at lane hs ≡ Some t → HasStill lane t (map (in_hand_marked number n) hs)
  marked_still lane n [] t e = absurd (none_some t e)
  marked_still lane n (h ∷ hs) t e =
      marked_here (h.lane == lane) lane n h hs t e (marked_still lane n hs t)

module _ {X : Type 0} where
  still_same : (lane : ℕ) (hs : List (InHand X)) (t : Task X) → task_at lane hs ≡ Some t
      → HasStill lane t hs
  still_same lane hs t e = (t, e, (refl, λ c. c, refl))

module _ {X Y : Type 0} (number : X → ℤ) (cancels : X → Bool) where
  heard_still : (s : State X Y) (m : X) (b : Bool) (lane : ℕ) (t : Task X)
      → task_at lane s.hands ≡ Some t
      → HasStill lane t (heard_by number cancels s m b).hands
  heard_still s m true lane t e = marked_still number lane (number m) s.hands t e
  heard_still s m false lane t e = still_same lane s.hands t e

  either_still : (b : Bool) (s s' : State X Y) (lane : ℕ) (t : Task X)
      → HasStill lane t s.hands → HasStill lane t s'.hands → HasStill lane t (cond b s' s).hands
  either_still true s s' lane t a b = b
  either_still false s s' lane t a b = a

  taken_still : (s : State X Y) (ts : List (Task X)) (lane other : ℕ) (t : Task X)
      → (other == lane) ≡ false → task_at lane s.hands ≡ Some t
      → HasStill lane t (taken_by other s ts).hands
  taken_still s [] lane other t n e = still_same lane s.hands t e
  taken_still s (x ∷ xs) lane other t n e = (
    t,
    ap (λ (b : Bool). cond b (Some (begun (length s.heard) x)) (task_at lane s.hands)) n ∙ e,
    (refl, λ c. c, refl),
  )

  answered_still : (s : State X Y) (r : Y) (o : Option (Task X)) (lane other : ℕ) (t : Task X)
      → (other == lane) ≡ false → task_at lane s.hands ≡ Some t
      → HasStill lane t (answered_by other s r o).hands
  answered_still s r None lane other t n e = still_same lane s.hands t e
  answered_still s r (Some x) lane other t n e =
      still_same lane (hands_without other s.hands) t (other_at lane other s.hands n ∙ e)

  step_still : (s : State X Y) (lane other : ℕ) (c : Ask X Y) (t : Task X)
      → (other == lane) ≡ false → task_at lane s.hands ≡ Some t
      → HasStill lane t (moved number cancels s other c).hands
  step_still s lane other (ask.Hear request) t n e =
      either_still (other == 0) s
      (heard_by number cancels s request.value (cancels request.value)) lane t
      (still_same lane s.hands t e)
      (heard_still s request.value (cancels request.value) lane t e)
  step_still s lane other ask.Take t n e = taken_still s s.waiting lane other t n e
  step_still s lane other (ask.Answer response) t n e =
      answered_still s response.value (task_at other s.hands) lane other t n e
  step_still s lane other (ask.Room depth) t n e =
      either_still (other == 0) s (roomed depth s) lane t (still_same lane s.hands t e)
      (still_same lane s.hands t e)
  step_still s lane other ask.IsCancelled t n e = still_same lane s.hands t e
  step_still s lane other ask.Close t n e = still_same lane s.hands t e
  step_still s lane other ask.Halt t n e = still_same lane s.hands t e

  pub other_lane : (lane : ℕ) (e : Entry (Ask X Y) Told) (es : List (Entry (Ask X Y) Told))
      → calls_by lane (e ∷ es) ≡ [] → ((e.lane == lane) ≡ false) × (calls_by lane es ≡ [])
  other_lane lane e es none = dite (ℕ_discrete lane e.lane)
      (λ same. absurd
      (let b : (lane == e.lane) ≡ true = eq-eqb lane e.lane same in
      let x : e ∷ calls_by lane es ≡ [] =
      ap (λ (t : Bool). cond t (e ∷ calls_by lane es) (calls_by lane es)) (sym b) ∙ none in cc))
      (λ other.
      let b : (lane == e.lane) ≡ false = ne_eqb lane e.lane other in (
        ne_eqb e.lane lane (λ q. other (sym q)),
        ap (λ (t : Bool). cond t (e ∷ calls_by lane es) (calls_by lane es)) (sym b) ∙ none,
      ))

  pub rest_still : (s : State X Y) (rest : List (Entry (Ask X Y) Told)) (lane : ℕ) (t : Task X)
      → calls_by lane rest ≡ [] → task_at lane s.hands ≡ Some t
      → HasStill lane t (fold (state_then number cancels) s rest).hands
  rest_still s [] lane t none e = still_same lane s.hands t e
  rest_still s (x ∷ xs) lane t none e =
      let o = other_lane lane x xs none in
      let one = step_still s lane x.lane x.call t o.0 e in
      let more = rest_still (state_then number cancels s x) xs lane one.0 o.1 one.1 in (
        more.0,
        more.1,
        (more.2.0 ∙ one.2.0, λ c. more.2.1 (one.2.1 c), more.2.2 ∙ one.2.2),
      )

  pub on_from : (h more : List (Entry (Ask X Y) Told))
      → state_of number cancels (h ++ more)
      ≡ fold (state_then number cancels) (state_of number cancels h) more
  on_from h more = fold-append
      (λ (s : State X Y) (x : Entry (Ask X Y) Told). state_then number cancels s x) first h more

  -- the state after one entry more
  pub one_more : (h : List (Entry (Ask X Y) Told)) (e : Entry (Ask X Y) Told)
      → state_of number cancels (h ++ e ∷ [])
      ≡ state_then number cancels (state_of number cancels h) e
  one_more h e = on_from h (e ∷ [])

  module _ (Says : X → Bool → Y → Type 0) (written : Y → List ℕ) where
    -- what suits a call still suits it after calls of other lanes
    pub suits_on : (h more : List (Entry (Ask X Y) Told)) (lane : ℕ) (c : Ask X Y)
        (g : Option (Load X)) → calls_by lane more ≡ []
        → GoesIn number cancels Says written (state_of number cancels h) lane c g
        → GoesIn number cancels Says written (state_of number cancels (h ++ more)) lane c g
    suits_on h more lane (ask.Hear request) g none i = i
    suits_on h more lane (ask.Answer response) g none i =
        let r = rest_still (state_of number cancels h) more lane i.0 none i.2 in (
          r.0,
          i.1,
          subst (λ (s : State X Y). task_at lane s.hands ≡ Some r.0) (sym (on_from h more)) r.1,
          (
            i.3.0,
            λ e. r.2.1 (i.3.1 e),
            subst (λ (m : X). Says m i.3.0 response.value) (sym r.2.0) i.3.2,
            λ e. i.3.3 (sym r.2.2 ∙ e),
          ),
          i.4,
          i.5,
        )
    suits_on h more lane (ask.Room depth) g none i = i
    suits_on h more lane ask.Take g none i = i
    suits_on h more lane ask.IsCancelled g none i = i
    suits_on h more lane ask.Close g none i = i
    suits_on h more lane ask.Halt g none i = i
