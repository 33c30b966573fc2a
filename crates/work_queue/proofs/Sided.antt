-- What a lane knows of the queue as the history goes on.
use Rattle.std.proofs.Common.{◌≡◌, ◌⊎◌, ℕ, ℤ, ◌==◌, ◌<◌, ◌≤◌, Bool, true, false, cond, List, [], ◌∷◌, ◌++◌, length, map}
use Rattle.std.proofs.Common.{Option, Some, None, refl, ap, sym, ◌∙◌, subst, inl, inr, eq-eqb, append-nil}
use Rattle.std.specs.List.{fold, AllByRecursion}
use Rattle.std.proofs.lemmas.Bool.{cases_lt}
use Rattle.std.specs.declared.snapshot.Snapshot.{Snapshot}
use Rattle.std.proofs.lemmas.List.Concat.{flat_map-append}
use Rattle.plain_values.specs.declared.entry.Entry.{Entry}
use Rattle.seat_desk.specs.declared.view.View.{View}
use Rattle.seat_desk.specs.History.{calls_by, GoesOn}
use Rattle.seat_desk.specs.Desks.{Answers}
use Rattle.work_queue.specs.declared.rows.Asked.{Asked}
use Rattle.work_queue.specs.declared.queue.Ask.{Ask}
use Rattle.work_queue.specs.declared.queue.Ask.TheVariants as ask
use Rattle.work_queue.specs.declared.queue.Told.{Told}
use Rattle.work_queue.specs.declared.queue.Told.TheVariants as told
use Rattle.work_queue.specs.declared.queue.Load.{Load}
use Rattle.work_queue.specs.declared.queue.Load.TheVariants as load
use Rattle.work_queue.specs.States.{State, Task, InHand, Held, held, begun, begun_by, unless, reader, first}
use Rattle.work_queue.specs.States.{task_marked, in_hand_marked}
use Rattle.work_queue.specs.States.{state_of, state_then, moved, heard_by, roomed}
use Rattle.work_queue.specs.States.{Read, read_in, heard_in, roomed_in}
use Rattle.work_queue.specs.States.{taken_by, answered_by, task_at, is_cancelled, has_some}
use Rattle.work_queue.specs.States.{answer_to, is_kept, is_short, ComesOut, FirstIs}
use Rattle.work_queue.specs.StateLaws.{HasStill, other_at, other_lane, on_from, rest_still}
use Rattle.work_queue.proofs.Proper.{all_last}
use Rattle.work_queue.proofs.Turning.{by_kept}

false_not_true : false ≡ true → ⊥
false_not_true e = cc

weaker : {A B C : Type 0} → A ⊎ (B × C) → A ⊎ B
weaker (inl a) = inl a
weaker (inr b) = inr b.0

not_short : is_short told.Done ≡ true → ⊥
not_short e = false_not_true e

idle_done : told.Done ≡ told.Idle → ⊥
idle_done e = cc

open_done : (b : Bool) → told.Open ≡ cond b told.Open told.Done → b ≡ true
open_done true e = refl
open_done false e = absurd (let x : told.Open ≡ told.Done = e in cc)

module _ {X : Type 0} where
  abbrev work_or : Asked X → Option (Load X) → Asked X
  work_or other None = other
  work_or other (Some (load.Request m)) = other
  work_or other (Some (load.Task w)) = w
  work_or other (Some (load.Bytes bytes)) = other

  same_lane : (lane : ℕ) (a b : Option (Task X)) → cond (lane == lane) a b ≡ a
  same_lane lane a b = ap (λ (x : Bool). cond x a b) (eq-eqb lane lane refl)

  first_is : (ts : List (Task X)) (t : Task X) (rest : List (Task X)) (w : Asked X)
      → ts ≡ t ∷ rest → FirstIs ts (Some (load.Task w))
      → Some (load.Task w) ≡ Some (load.Task t.work)
  first_is ts t rest w is c =
      subst (λ (xs : List (Task X)). FirstIs xs (Some (load.Task w))) is c

  abbrev one_begun : ℕ → InHand X → List X
  one_begun lane h = cond (h.lane == lane) (unless h.task.was h.task.work.request) []

  abbrev task_or : Task X → Option (Task X) → Task X
  task_or other None = other
  task_or other (Some t) = t

  held_either : (b : Bool) (t t' : Task X) (o o' : Option (Task X)) → held (Some t') ≡ held (Some t)
      → held o' ≡ held o → held (cond b (Some t') o') ≡ held (cond b (Some t) o)
  held_either true t t' o o' here else = here
  held_either false t t' o o' here else = else

  -- a mark leaves what a lane has in hand
  hand_marked : (number : X → ℤ) (lane : ℕ) (n : ℤ) (hs : List (InHand X))
      → held (task_at lane (map (in_hand_marked number n) hs)) ≡ held (task_at lane hs)
  hand_marked number lane n [] = refl
  hand_marked number lane n (h ∷ hs) =
      held_either (h.lane == lane) h.task (task_marked number n h.task) (task_at lane hs)
      (task_at lane (map (in_hand_marked number n) hs)) refl (hand_marked number lane n hs)

module _ {X Y : Type 0} (number : X → ℤ) (cancels : X → Bool) where
  abbrev At : List (Entry (Ask X Y) Told) → State X Y
  At h = state_of number cancels h

  -- ---- what was heard

  read_either : (b : Bool) (s s' : State X Y) → b ≡ false → read_in (cond b s' s) ≡ read_in s
  read_either true s s' e = absurd (let x : false ≡ true = sym e in false_not_true x)
  read_either false s s' e = refl

  read_taken : (lane : ℕ) (s : State X Y) (ts : List (Task X))
      → read_in (taken_by lane s ts) ≡ read_in s
  read_taken lane s [] = refl
  read_taken lane s (t ∷ ts) = refl

  read_answered : (lane : ℕ) (s : State X Y) (y : Y) (o : Option (Task X))
      → read_in (answered_by lane s y o) ≡ read_in s
  read_answered lane s y None = refl
  read_answered lane s y (Some t) = refl

  read_step : (s : State X Y) (lane : ℕ) (c : Ask X Y) → (lane == reader) ≡ false
      → read_in (moved number cancels s lane c) ≡ read_in s
  read_step s lane (ask.Hear about) n = read_either (lane == reader) s _ n
  read_step s lane ask.Take n = read_taken lane s s.waiting
  read_step s lane (ask.Answer about) n =
      read_answered lane s about.value (task_at lane s.hands)
  read_step s lane (ask.Room depth) n = read_either (lane == reader) s (roomed depth s) n
  read_step s lane ask.IsCancelled n = refl
  read_step s lane ask.Close n = refl
  read_step s lane ask.Halt n = refl

  read_rest : (s : State X Y) (rest : List (Entry (Ask X Y) Told)) → calls_by reader rest ≡ []
      → read_in (fold (state_then number cancels) s rest) ≡ read_in s
  read_rest s [] none = refl
  read_rest s (e ∷ es) none =
      let o = other_lane number cancels reader e es none in
      read_rest (state_then number cancels s e) es o.1 ∙ read_step s e.lane e.call o.0

  -- what the reader has done stays while others call
  pub read_on : (lane : ℕ) (seen h : List (Entry (Ask X Y) Told)) → lane ≡ reader
      → GoesOn lane seen h → read_in (At h) ≡ read_in (At seen)
  read_on lane seen h is on =
      ap (λ (x : List (Entry (Ask X Y) Told)). read_in (At x)) on.1
      ∙ (ap (λ (s : State X Y). read_in s) (on_from number cancels seen on.0)
      ∙ read_rest (At seen) on.0 (subst (λ (k : ℕ). calls_by k on.0 ≡ []) is on.2))

  pub heard_on : (lane : ℕ) (seen h : List (Entry (Ask X Y) Told)) → lane ≡ reader
      → GoesOn lane seen h → (At h).heard ≡ (At seen).heard
  heard_on lane seen h is on = ap (λ (r : Read X). r.heard) (read_on lane seen h is on)

  -- ---- a call

  -- what a call tells: the point at which it was made, the reply, and the state that it left
  pub record Called (lane : ℕ) (seen : List (Entry (Ask X Y) Told)) (call : Ask X Y) (reply : Told)
      (good : Option (Load X)) (seen' : List (Entry (Ask X Y) Told)) : Type 0 where
    pub point : List (Entry (Ask X Y) Told)
    pub on : GoesOn lane seen point
    pub is : (reply ≡ answer_to (At point) lane call) ⊎ (is_short reply ≡ true)
    pub left : At seen' ≡ cond (is_kept call reply) (moved number cancels (At point) lane call)
        (At point)
    pub comes : ComesOut (At point) call reply good

  pub called : {S Q : Type 0} (stands : S → List (Entry (Ask X Y) Told) → Type 0) (lane : ℕ)
      (may : List (Entry (Ask X Y) Told) → ℕ → Ask X Y → Type 0)
      (v w : View (Ask X Y) Told Q) (call : Ask X Y) (reply : Told) (good : Option (Load X))
      → Answers stands (λ h k c. answer_to (At h) k c) is_short may
      (λ e. is_kept e.call e.reply) (λ h k c r g. ComesOut (At h) c r g) lane v call reply good w
      → Called lane v.seen call reply good w.seen
  called {S} {Q} stands lane may v w call reply good a = record {
    point = a.0;
    on = a.1;
    is = weaker a.2;
    left = ap (λ (h : List (Entry (Ask X Y) Told)). At h) a.3.0
        ∙ by_kept number cancels (is_kept call reply) a.0 lane call reply;
    comes = a.4;
  }

  -- ---- what a lane has begun

  abbrev pub Begun : ℕ → State X Y → List X
  Begun lane s = begun_by lane s.taken

  taken_heard : (s : State X Y) (m : X) (b : Bool) → (heard_by number cancels s m b).taken ≡ s.taken
  taken_heard s m true = refl
  taken_heard s m false = refl

  taken_either : (b : Bool) (s s' : State X Y) → s'.taken ≡ s.taken
      → (cond b s' s).taken ≡ s.taken
  taken_either true s s' e = e
  taken_either false s s' e = refl

  taken_answered : (lane : ℕ) (s : State X Y) (y : Y) (o : Option (Task X))
      → (answered_by lane s y o).taken ≡ s.taken
  taken_answered lane s y None = refl
  taken_answered lane s y (Some t) = refl

  begun_taken : (lane other : ℕ) (s : State X Y) (ts : List (Task X)) → (other == lane) ≡ false
      → Begun lane (taken_by other s ts) ≡ Begun lane s
  begun_taken lane other s [] n = refl
  begun_taken lane other s (t ∷ ts) n =
      let h : InHand X = record { lane = other; task = begun (length s.heard) t } in
      flat_map-append (one_begun lane) s.taken (h ∷ [])
      ∙ (ap {B = List X} (λ (b : Bool). Begun lane s
      ++ (cond b (unless t.work.cancelled t.work.request) [] ++ [])) n
      ∙ append-nil (Begun lane s))

  begun_step : (lane : ℕ) (s : State X Y) (other : ℕ) (c : Ask X Y) → (other == lane) ≡ false
      → Begun lane (moved number cancels s other c) ≡ Begun lane s
  begun_step lane s other (ask.Hear about) n =
      ap (λ (hs : List (InHand X)). begun_by lane hs) (taken_either (other == reader) s
      (heard_by number cancels s about.value (cancels about.value))
      (taken_heard s about.value (cancels about.value)))
  begun_step lane s other ask.Take n = begun_taken lane other s s.waiting n
  begun_step lane s other (ask.Answer about) n =
      ap (λ (hs : List (InHand X)). begun_by lane hs)
      (taken_answered other s about.value (task_at other s.hands))
  begun_step lane s other (ask.Room depth) n =
      ap (λ (hs : List (InHand X)). begun_by lane hs)
      (taken_either (other == reader) s (roomed depth s) refl)
  begun_step lane s other ask.IsCancelled n = refl
  begun_step lane s other ask.Close n = refl
  begun_step lane s other ask.Halt n = refl

  begun_rest : (lane : ℕ) (s : State X Y) (rest : List (Entry (Ask X Y) Told))
      → calls_by lane rest ≡ [] → Begun lane (fold (state_then number cancels) s rest) ≡ Begun lane s
  begun_rest lane s [] none = refl
  begun_rest lane s (e ∷ es) none =
      let o = other_lane number cancels lane e es none in
      begun_rest lane (state_then number cancels s e) es o.1
      ∙ begun_step lane s e.lane e.call o.0

  -- what a lane has begun stays while others call
  pub begun_on : (lane : ℕ) (seen h : List (Entry (Ask X Y) Told)) → GoesOn lane seen h
      → Begun lane (At h) ≡ Begun lane (At seen)
  begun_on lane seen h on =
      ap (λ (x : List (Entry (Ask X Y) Told)). Begun lane (At x)) on.1
      ∙ (ap (λ (s : State X Y). Begun lane s) (on_from number cancels seen on.0)
      ∙ begun_rest lane (At seen) on.0 on.2)

  -- and with a call of its own that isn't kept
  pub still_begun : (lane : ℕ) (seen seen' : List (Entry (Ask X Y) Told)) (call : Ask X Y)
      (reply : Told) (good : Option (Load X)) → is_kept call reply ≡ false
      → Called lane seen call reply good seen' → Begun lane (At seen') ≡ Begun lane (At seen)
  still_begun lane seen seen' call reply good not k =
      ap (λ (s : State X Y). Begun lane s) k.left
      ∙ (ap (λ (b : Bool). Begun lane (cond b (moved number cancels (At k.point) lane call)
      (At k.point))) not ∙ begun_on lane seen k.point k.on)

  -- and with an answer
  pub answer_begun : (lane : ℕ) (seen seen' : List (Entry (Ask X Y) Told)) (about : Snapshot Y)
      (reply : Told) (good : Option (Load X))
      → Called lane seen (ask.Answer about) reply good seen'
      → Begun lane (At seen') ≡ Begun lane (At seen)
  answer_begun lane seen seen' about reply good k =
      let c : Ask X Y = ask.Answer about in
      ap (λ (s : State X Y). Begun lane s) k.left
      ∙ (ap (λ (hs : List (InHand X)). begun_by lane hs) (taken_either (is_kept c reply) (At k.point)
      (moved number cancels (At k.point) lane c)
      (taken_answered lane (At k.point) about.value (task_at lane (At k.point).hands)))
      ∙ begun_on lane seen k.point k.on)

  -- ---- what a lane has in hand

  abbrev pub Hand : ℕ → State X Y → Option (Held X)
  Hand lane s = held (task_at lane s.hands)

  hand_heard : (lane : ℕ) (s : State X Y) (m : X) (b : Bool)
      → Hand lane (heard_by number cancels s m b) ≡ Hand lane s
  hand_heard lane s m true = hand_marked number lane (number m) s.hands
  hand_heard lane s m false = refl

  hand_either : (lane : ℕ) (b : Bool) (s s' : State X Y) → Hand lane s' ≡ Hand lane s
      → Hand lane (cond b s' s) ≡ Hand lane s
  hand_either lane true s s' e = e
  hand_either lane false s s' e = refl

  hand_taken : (lane other : ℕ) (s : State X Y) (ts : List (Task X)) → (other == lane) ≡ false
      → Hand lane (taken_by other s ts) ≡ Hand lane s
  hand_taken lane other s [] n = refl
  hand_taken lane other s (t ∷ ts) n =
      ap (λ (b : Bool). held (cond b (Some (begun (length s.heard) t)) (task_at lane s.hands))) n

  hand_answered : (lane other : ℕ) (s : State X Y) (y : Y) (o : Option (Task X))
      → (other == lane) ≡ false → Hand lane (answered_by other s y o) ≡ Hand lane s
  hand_answered lane other s y None n = refl
  hand_answered lane other s y (Some t) n =
      ap (λ (x : Option (Task X)). held x) (other_at lane other s.hands n)

  hand_step : (lane : ℕ) (s : State X Y) (other : ℕ) (c : Ask X Y) → (other == lane) ≡ false
      → Hand lane (moved number cancels s other c) ≡ Hand lane s
  hand_step lane s other (ask.Hear about) n =
      hand_either lane (other == reader) s
      (heard_by number cancels s about.value (cancels about.value))
      (hand_heard lane s about.value (cancels about.value))
  hand_step lane s other ask.Take n = hand_taken lane other s s.waiting n
  hand_step lane s other (ask.Answer about) n =
      hand_answered lane other s about.value (task_at other s.hands) n
  hand_step lane s other (ask.Room depth) n =
      hand_either lane (other == reader) s (roomed depth s) refl
  hand_step lane s other ask.IsCancelled n = refl
  hand_step lane s other ask.Close n = refl
  hand_step lane s other ask.Halt n = refl

  hand_rest : (lane : ℕ) (s : State X Y) (rest : List (Entry (Ask X Y) Told))
      → calls_by lane rest ≡ [] → Hand lane (fold (state_then number cancels) s rest) ≡ Hand lane s
  hand_rest lane s [] none = refl
  hand_rest lane s (e ∷ es) none =
      let o = other_lane number cancels lane e es none in
      hand_rest lane (state_then number cancels s e) es o.1
      ∙ hand_step lane s e.lane e.call o.0

  -- what a lane has in hand stays while others call
  pub hand_on : (lane : ℕ) (seen h : List (Entry (Ask X Y) Told)) → GoesOn lane seen h
      → Hand lane (At h) ≡ Hand lane (At seen)
  hand_on lane seen h on =
      ap (λ (x : List (Entry (Ask X Y) Told)). Hand lane (At x)) on.1
      ∙ (ap (λ (s : State X Y). Hand lane s) (on_from number cancels seen on.0)
      ∙ hand_rest lane (At seen) on.0 on.2)

  -- and with a call of its own that isn't kept
  pub still_hand : (lane : ℕ) (seen seen' : List (Entry (Ask X Y) Told)) (call : Ask X Y)
      (reply : Told) (good : Option (Load X)) → is_kept call reply ≡ false
      → Called lane seen call reply good seen' → Hand lane (At seen') ≡ Hand lane (At seen)
  still_hand lane seen seen' call reply good not k =
      ap (λ (s : State X Y). Hand lane s) k.left
      ∙ (ap (λ (b : Bool). Hand lane (cond b (moved number cancels (At k.point) lane call)
      (At k.point))) not ∙ hand_on lane seen k.point k.on)

  abbrev Cancelled : ℕ → State X Y → Type 0
  Cancelled lane s = is_cancelled (task_at lane s.hands) ≡ true

  cancelled_some : (lane : ℕ) (s s' : State X Y) (o : Option (Task X)) → task_at lane s.hands ≡ o
      → ((t : Task X) → task_at lane s.hands ≡ Some t → HasStill lane t s'.hands)
      → Cancelled lane s → Cancelled lane s'
  cancelled_some lane s s' None at still c =
      absurd (false_not_true (ap (λ (x : Option (Task X)). is_cancelled x) (sym at) ∙ c))
  cancelled_some lane s s' (Some t) at still c =
      let st = still t at in
      ap (λ (x : Option (Task X)). is_cancelled x) st.1
      ∙ st.2.1 (ap (λ (x : Option (Task X)). is_cancelled x) (sym at) ∙ c)

  -- and it stays cancelled
  pub cancelled_on : (lane : ℕ) (seen h : List (Entry (Ask X Y) Told)) → GoesOn lane seen h
      → Cancelled lane (At seen) → Cancelled lane (At h)
  cancelled_on lane seen h on =
      let rest = fold (state_then number cancels) (At seen) on.0 in
      let same : At h ≡ rest = ap (λ (x : List (Entry (Ask X Y) Told)). At x) on.1
      ∙ on_from number cancels seen on.0 in
      subst (λ (s : State X Y). Cancelled lane (At seen) → Cancelled lane s) (sym same)
      (cancelled_some lane (At seen) rest (task_at lane (At seen).hands) refl
      (λ t at. rest_still number cancels (At seen) on.0 lane t on.2 at))

  pub still_cancelled : (lane : ℕ) (seen seen' : List (Entry (Ask X Y) Told)) (call : Ask X Y)
      (reply : Told) (good : Option (Load X)) → is_kept call reply ≡ false
      → Called lane seen call reply good seen' → Cancelled lane (At seen)
      → Cancelled lane (At seen')
  still_cancelled lane seen seen' call reply good not k c =
      let same : At seen' ≡ At k.point = k.left
      ∙ ap (λ (b : Bool). cond b (moved number cancels (At k.point) lane call) (At k.point)) not in
      subst (λ (s : State X Y). Cancelled lane s) (sym same)
      (cancelled_on lane seen k.point k.on c)

  -- ---- who has taken something

  abbrev pub TakenBelow : ℕ → State X Y → Type 0
  TakenBelow n s = AllByRecursion (λ (h : InHand X). h.lane < n) s.taken

  below_same : (n : ℕ) (s s' : State X Y) → s'.taken ≡ s.taken → TakenBelow n s
      → TakenBelow n s'
  below_same n s s' e f =
      subst (λ (hs : List (InHand X)). AllByRecursion (λ (h : InHand X). h.lane < n) hs) (sym e) f

  below_taken : (n lane : ℕ) (s : State X Y) (ts : List (Task X)) → lane < n → TakenBelow n s
      → TakenBelow n (taken_by lane s ts)
  below_taken n lane s [] lt f = f
  below_taken n lane s (t ∷ ts) lt f =
      all_last (λ (h : InHand X). h.lane < n) s.taken
      (record { lane = lane; task = begun (length s.heard) t }) f lt

  below_step : (n : ℕ) (s : State X Y) (lane : ℕ) (c : Ask X Y) → lane < n → TakenBelow n s
      → TakenBelow n (moved number cancels s lane c)
  below_step n s lane (ask.Hear about) lt f =
      below_same n s (moved number cancels s lane (ask.Hear about))
      (taken_either (lane == reader) s (heard_by number cancels s about.value (cancels about.value))
      (taken_heard s about.value (cancels about.value))) f
  below_step n s lane ask.Take lt f = below_taken n lane s s.waiting lt f
  below_step n s lane (ask.Answer about) lt f =
      below_same n s (moved number cancels s lane (ask.Answer about))
      (taken_answered lane s about.value (task_at lane s.hands)) f
  below_step n s lane (ask.Room depth) lt f =
      below_same n s (moved number cancels s lane (ask.Room depth))
      (taken_either (lane == reader) s (roomed depth s) refl) f
  below_step n s lane ask.IsCancelled lt f = f
  below_step n s lane ask.Close lt f = f
  below_step n s lane ask.Halt lt f = f

  lane_below : (n : ℕ) (e : Entry (Ask X Y) Told) (es : List (Entry (Ask X Y) Told))
      → ((k : ℕ) → n ≤ k → calls_by k (e ∷ es) ≡ []) → e.lane < n
  lane_below n e es none = elim (cases_lt e.lane n) [
    | inl lt ↦ lt
    | inr le ↦ absurd (false_not_true (sym (other_lane number cancels e.lane e es
        (none e.lane le)).0 ∙ eq-eqb e.lane e.lane refl))
  ]

  below_rest : (n : ℕ) (s : State X Y) (h : List (Entry (Ask X Y) Told))
      → ((k : ℕ) → n ≤ k → calls_by k h ≡ []) → TakenBelow n s
      → TakenBelow n (fold (state_then number cancels) s h)
  below_rest n s [] none f = f
  below_rest n s (e ∷ es) none f =
      below_rest n (state_then number cancels s e) es
      (λ k le. (other_lane number cancels k e es (none k le)).1)
      (below_step n s e.lane e.call (lane_below n e es none) f)

  -- who has taken something has made a call
  pub taken_below : (n : ℕ) (h : List (Entry (Ask X Y) Told))
      → ((k : ℕ) → n ≤ k → calls_by k h ≡ []) → TakenBelow n (At h)
  taken_below n h none = below_rest n first h none tt

  begun_first : (lane : ℕ) (p : State X Y) (w : Asked X) (ts : List (Task X)) → p.waiting ≡ ts
      → told.Done ≡ has_some ts → ComesOut p ask.Take told.Done (Some (load.Task w))
      → Begun lane (taken_by lane p ts) ≡ Begun lane p ++ unless w.cancelled w.request
  begun_first lane p w [] is done comes = absurd (idle_done done)
  begun_first lane p w (t ∷ ts) is done comes =
      let h : InHand X = record { lane = lane; task = begun (length p.heard) t } in
      let same : w ≡ t.work = ap (work_or w) (first_is p.waiting t ts w is comes) in
      flat_map-append (one_begun lane) p.taken (h ∷ [])
      ∙ (ap {B = List X} (λ (b : Bool). Begun lane p
      ++ (cond b (unless t.work.cancelled t.work.request) [] ++ [])) (eq-eqb lane lane refl)
      ∙ (ap (λ (xs : List X). Begun lane p ++ xs)
      (append-nil (unless t.work.cancelled t.work.request))
      ∙ ap (λ (x : Asked X). Begun lane p ++ unless x.cancelled x.request) (sym same)))

  -- ---- the reader's calls

  read_so : (s : State X Y) (m : X) (b : Bool)
      → read_in (heard_by number cancels s m b) ≡ heard_in m b (read_in s)
  read_so s m true = refl
  read_so s m false = refl

  -- a call that isn't kept changes nothing of what the reader has done
  pub still_read : (lane : ℕ) (seen seen' : List (Entry (Ask X Y) Told)) (call : Ask X Y)
      (reply : Told) (good : Option (Load X)) → lane ≡ reader
      → is_kept call reply ≡ false
      → Called lane seen call reply good seen' → read_in (At seen') ≡ read_in (At seen)
  still_read lane seen seen' call reply good is not k =
      ap (λ (s : State X Y). read_in s) k.left
      ∙ (ap (λ (b : Bool). read_in (cond b (moved number cancels (At k.point) lane call)
      (At k.point))) not ∙ read_on lane seen k.point is k.on)

  -- the reader was told that fewer than this wait
  pub now_roomed : (lane depth : ℕ) (seen seen' : List (Entry (Ask X Y) Told))
      (good : Option (Load X)) → lane ≡ reader
      → Called lane seen (ask.Room depth) told.Open good seen'
      → read_in (At seen') ≡ roomed_in depth (read_in (At seen))
  now_roomed lane depth seen seen' good is k =
      ap (λ (s : State X Y). read_in s) k.left
      ∙ (ap (λ (b : Bool). read_in (cond b (roomed depth (At k.point)) (At k.point)))
      (eq-eqb lane reader is)
      ∙ ap (λ (r : Read X). roomed_in depth r) (read_on lane seen k.point is k.on))

  -- the request was heard
  pub now_heard : (lane : ℕ) (seen seen' : List (Entry (Ask X Y) Told)) (call : Ask X Y)
      (m : X) (good : Option (Load X)) → lane ≡ reader
      → ((s : State X Y) → moved number cancels s lane call
      ≡ cond (lane == reader) (heard_by number cancels s m (cancels m)) s)
      → is_kept call told.Done ≡ true
      → Called lane seen call told.Done good seen'
      → read_in (At seen') ≡ heard_in m (cancels m) (read_in (At seen))
  now_heard lane seen seen' call m good is moves done k =
      ap (λ (s : State X Y). read_in s) k.left
      ∙ (ap (λ (b : Bool). read_in (cond b (moved number cancels (At k.point) lane call)
      (At k.point))) done
      ∙ (ap (λ (s : State X Y). read_in s) (moves (At k.point))
      ∙ (ap (λ (b : Bool). read_in (cond b (heard_by number cancels (At k.point) m (cancels m))
      (At k.point))) (eq-eqb lane reader is)
      ∙ (read_so (At k.point) m (cancels m)
      ∙ ap (λ (r : Read X). heard_in m (cancels m) r) (read_on lane seen k.point is k.on)))))

  -- ---- the calls of those who answer

  pub record TookFirst (lane : ℕ) (w : Asked X) (s : State X Y) : Type 0 where
    pub task : Task X
    pub here : task_at lane s.hands ≡ Some task
    pub is : task.work ≡ w
    pub was : task.was ≡ w.cancelled

  took_first : (lane : ℕ) (p s' : State X Y) (w : Asked X) (ts : List (Task X)) → p.waiting ≡ ts
      → told.Done ≡ has_some ts → s' ≡ taken_by lane p ts
      → ComesOut p ask.Take told.Done (Some (load.Task w)) → TookFirst lane w s'
  took_first lane p s' w [] is done left comes = absurd (idle_done done)
  took_first lane p s' w (t ∷ ts) is done left comes = record {
    task = begun (length p.heard) t;
    here = ap (λ (s : State X Y). task_at lane s.hands) left
        ∙ same_lane lane (Some (begun (length p.heard) t)) _;
    is = sym (ap (work_or w) (first_is p.waiting t ts w is comes));
    was = sym (ap (λ (x : Asked X). x.cancelled)
        (ap (work_or w) (first_is p.waiting t ts w is comes)));
  }

  take_reply : (s : State X Y) (lane : ℕ) (r : Told) → r ≡ told.Done
      → (r ≡ answer_to s lane ask.Take) ⊎ (is_short r ≡ true) → told.Done ≡ has_some s.waiting
  take_reply s lane r is (inl e) = sym is ∙ e
  take_reply s lane r is (inr e) = absurd (not_short (ap is_short (sym is) ∙ e))

  -- the lane has the request in hand that came out
  pub now_taken : (lane : ℕ) (seen seen' : List (Entry (Ask X Y) Told)) (r : Told) (w : Asked X)
      → r ≡ told.Done → Called lane seen ask.Take r (Some (load.Task w)) seen'
      → TookFirst lane w (At seen')
  now_taken lane seen seen' r w is k =
      let p = At k.point in
      took_first lane p (At seen') w p.waiting refl (take_reply p lane r is k.is)
      (k.left ∙ ap (λ (x : Told).
      cond (is_kept {X = X} {Y = Y} ask.Take x) (taken_by lane p p.waiting) p) is)
      (subst (λ (x : Told). ComesOut p ask.Take x (Some (load.Task w))) is k.comes)

  -- the lane has begun it, unless it was cancelled
  pub take_begun : (lane : ℕ) (seen seen' : List (Entry (Ask X Y) Told)) (r : Told) (w : Asked X)
      → r ≡ told.Done → Called lane seen ask.Take r (Some (load.Task w)) seen'
      → Begun lane (At seen') ≡ Begun lane (At seen) ++ unless w.cancelled w.request
  take_begun lane seen seen' r w is k =
      let p = At k.point in
      ap (λ (s : State X Y). Begun lane s) (k.left ∙ ap (λ (x : Told).
      cond (is_kept {X = X} {Y = Y} ask.Take x) (taken_by lane p p.waiting) p) is)
      ∙ (begun_first lane p w p.waiting refl (take_reply p lane r is k.is)
      (subst (λ (x : Told). ComesOut p ask.Take x (Some (load.Task w))) is k.comes)
      ∙ ap (λ (xs : List X). xs ++ unless w.cancelled w.request) (begun_on lane seen k.point k.on))

  open_reply : (s : State X Y) (lane : ℕ) (r : Told) → r ≡ told.Open
      → (r ≡ answer_to s lane ask.IsCancelled) ⊎ (is_short r ≡ true)
      → is_cancelled (task_at lane s.hands) ≡ true
  open_reply s lane r is (inl e) = open_done (is_cancelled (task_at lane s.hands)) (sym is ∙ e)
  open_reply s lane r is (inr e) =
      absurd (false_not_true (ap is_short (sym is) ∙ e))

  -- the lane was told that what it has in hand was cancelled
  pub now_cancelled : (lane : ℕ) (seen seen' : List (Entry (Ask X Y) Told)) (r : Told)
      (good : Option (Load X)) → r ≡ told.Open
      → Called lane seen ask.IsCancelled r good seen'
      → is_cancelled (task_at lane (At seen').hands) ≡ true
  now_cancelled lane seen seen' r good is k =
      ap (λ (s : State X Y). is_cancelled (task_at lane s.hands)) k.left
      ∙ open_reply (At k.point) lane r is k.is
