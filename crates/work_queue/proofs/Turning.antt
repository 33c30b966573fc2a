-- A turn of the queue.
use Rattle.std.proofs.Common.{◌≡◌, ℕ, ℤ, ◌<◌, ◌==◌, Bool, true, false, cond, List, [], ◌∷◌, ◌++◌, length}
use Rattle.std.proofs.Common.{Option, Some, None, refl, ap, sym, ◌∙◌, subst, inl, append-nil}
use Rattle.std.proofs.Common.{eq-eqb, arith}
use Rattle.std.proofs.lemmas.Bool.{lt-ltb}
use Rattle.std.proofs.lemmas.List.{length-map}
use Rattle.std.specs.Global.{Vec}
use Rattle.std.proofs.lemmas.List.Concat.{flat_map-append}
use Rattle.outside.specs.Told.{SinkTold}
use Rattle.plain_values.specs.declared.entry.Entry.{Entry}
use Rattle.seat_desk.specs.History.{entry, after}
use Rattle.work_queue.specs.declared.outlet.Outlet.{Outlet}
use Rattle.work_queue.specs.declared.rows.Asked.{Asked}
use Rattle.work_queue.specs.declared.rows.Hand.{Hand}
use Rattle.work_queue.specs.declared.queue.WorkQueue.{WorkQueue}
use Rattle.work_queue.specs.declared.queue.Ask.{Ask}
use Rattle.work_queue.specs.declared.queue.Ask.TheVariants as ask
use Rattle.work_queue.specs.declared.queue.Told.{Told}
use Rattle.work_queue.specs.declared.queue.Told.TheVariants as told
use Rattle.work_queue.specs.declared.queue.Load.{Load}
use Rattle.work_queue.specs.declared.queue.Load.TheVariants as load
use Rattle.work_queue.specs.Rows.{waiting_then, hands_then, rows_without, row_at, is_marked}
use Rattle.work_queue.specs.Rows.{HasTaken}
use Rattle.work_queue.specs.States.{State, Task, Reply, reader, state_of, moved, heard_by, taken_by, roomed}
use Rattle.work_queue.specs.States.{answered_by, task_at, has_some, FirstIs, is_kept, PutSo, put_by}
use Rattle.work_queue.specs.StateLaws.{Stands, TurnsSo, HearOnly, RoomOnly, TakeOnly, LookOnly}
use Rattle.work_queue.specs.StateLaws.{AnswerOnly}
use Rattle.work_queue.specs.StateLaws.{one_more}
use Rattle.work_queue.proofs.Rowing.{rows_heard, rows_taken, rows_answered, hand_marked_so}
use Rattle.work_queue.proofs.Proper.{proper_hears, proper_taken, proper_answered, proper_roomed}

module _ {X Y : Type 0} (number : X → ℤ) (cancels : X → Bool) (Says : X → Bool → Y → Type 0)
    (written : Y → List ℕ) where
  abbrev bytes_of : State X Y → List ℕ
  bytes_of s = put_by number cancels Says written s.replies

  replies_heard : (s : State X Y) (m : X) (b : Bool)
      → bytes_of (heard_by number cancels s m b) ≡ bytes_of s
  replies_heard s m true = refl
  replies_heard s m false = refl

  replies_taken : (lane : ℕ) (s : State X Y) (ts : List (Task X))
      → bytes_of (taken_by lane s ts) ≡ bytes_of s
  replies_taken lane s [] = refl
  replies_taken lane s (t ∷ ts) = refl

  one_reply : (s : State X Y) (t : Task X) (y : Y) (lane : ℕ)
      → bytes_of (answered_by lane s y (Some t)) ≡ bytes_of s ++ written y
  one_reply s t y lane =
      flat_map-append (λ (r : Reply Y). written r.response) s.replies
      ((record { place = t.place; heard = t.heard; response = y }) ∷ [])
      ∙ ap (λ (xs : List ℕ). bytes_of s ++ xs) (append-nil (written y))

module _ {O X Y : Type 0} (number : X → ℤ) (cancels : X → Bool) (Says : X → Bool → Y → Type 0)
    (written : Y → List ℕ) (told_of : O → SinkTold) where
  abbrev OutIs : Outlet O → State X Y → Type 0
  OutIs out s = PutSo out.has_failed (bytes_of number cancels Says written s)
      (told_of out.start.value) (told_of out.sink)

module _ {X Y : Type 0} (number : X → ℤ) (cancels : X → Bool) where
  -- ---- the state after a history with one entry more

  abbrev S : List (Entry (Ask X Y) Told) → State X Y
  S h = state_of number cancels h

  pub by_kept : (b : Bool) (h : List (Entry (Ask X Y) Told)) (lane : ℕ) (call : Ask X Y)
      (reply : Told) → S (cond b (h ++ entry lane call reply ∷ []) h)
      ≡ cond b (moved number cancels (S h) lane call) (S h)
  by_kept true h lane call reply = one_more number cancels h (entry lane call reply)
  by_kept false h lane call reply = refl

module _ {O X Y K : Type 0} (number : X → ℤ) (cancels : X → Bool) (Says : X → Bool → Y → Type 0)
    (written : Y → List ℕ) (told_of : O → SinkTold) where
  abbrev St : WorkQueue O X Y K → State X Y → Type 0
  St m s = Stands number cancels Says written told_of m s

  -- nothing of it has changed
  pub stands_same : (m m' : WorkQueue O X Y K) (s : State X Y) → m'.outlet ≡ m.outlet
      → m'.rows.waiting.items ≡ m.rows.waiting.items → m'.rows.hands.items ≡ m.rows.hands.items
      → St m s → St m' s
  stands_same m m' s o w h st = record {
    rows = (w ∙ st.rows.0, h ∙ st.rows.1);
    put = subst (λ (out : Outlet O). OutIs number cancels Says written told_of out s)
        (sym o) st.put;
    proper = st.proper;
  }

  -- a request was heard
  pub stands_heard : (m m' : WorkQueue O X Y K) (s : State X Y) (x : X) → m'.outlet ≡ m.outlet
      → m'.rows.waiting.items ≡ waiting_then number cancels x m.rows.waiting.items
      → m'.rows.hands.items ≡ hands_then number cancels x m.rows.hands.items
      → St m s → St m' (heard_by number cancels s x (cancels x))
  stands_heard m m' s x o w h st = record {
    rows = rows_heard number cancels s x m.rows.waiting.items m'.rows.waiting.items
        m.rows.hands.items m'.rows.hands.items st.rows w h;
    put = subst (λ (bytes : List ℕ). PutSo m'.outlet.has_failed bytes
        (told_of m'.outlet.start.value) (told_of m'.outlet.sink))
        (sym (replies_heard number cancels Says written s x (cancels x)))
        (subst (λ (out : Outlet O). OutIs number cancels Says written told_of out s) (sym o)
        st.put);
    proper = proper_hears number cancels Says s x st.proper;
  }

  -- the first that waits was taken
  pub stands_taken : (m m' : WorkQueue O X Y K) (s : State X Y) (lane : ℕ) (w : Asked X)
      → (lane ≡ reader → ⊥) → m'.outlet ≡ m.outlet
      → HasTaken number lane m.rows.waiting.items m.rows.hands.items (Some w)
      m'.rows.waiting.items m'.rows.hands.items
      → St m s → St m' (taken_by lane s s.waiting)
  stands_taken m m' s lane w hand o h st =
      let r = rows_taken number cancels lane s s.waiting w m.rows.waiting.items
      m'.rows.waiting.items m.rows.hands.items m'.rows.hands.items refl st.rows h in record {
        rows = r.4;
        put = subst (λ (bytes : List ℕ). PutSo m'.outlet.has_failed bytes
            (told_of m'.outlet.start.value) (told_of m'.outlet.sink))
            (sym (replies_taken number cancels Says written lane s s.waiting))
            (subst (λ (out : Outlet O). OutIs number cancels Says written told_of out s) (sym o)
            st.put);
        proper = proper_taken number cancels Says lane s hand st.proper;
      }

  -- a response was put to what the lane has in hand
  pub stands_answered : (m m' : WorkQueue O X Y K) (s : State X Y) (lane : ℕ) (t : Task X) (y : Y)
      (b : Bool) (bytes : List ℕ) → m.outlet.has_failed ≡ false
      → m'.rows.waiting.items ≡ m.rows.waiting.items
      → m'.rows.hands.items ≡ rows_without lane m.rows.hands.items
      → ((before : List ℕ)
      → PutSo false before (told_of m.outlet.start.value) (told_of m.outlet.sink)
      → PutSo m'.outlet.has_failed (before ++ bytes) (told_of m'.outlet.start.value)
      (told_of m'.outlet.sink))
      → task_at lane s.hands ≡ Some t → (b ≡ true → t.work.cancelled ≡ true)
      → Says t.work.request b y → (t.was ≡ true → b ≡ true) → bytes ≡ written y
      → St m s → St m' (answered_by lane s y (Some t))
  stands_answered m m' s lane t y b bytes ok w h puts here mark says was is st = record {
    rows = rows_answered number cancels lane s y t m'.rows.waiting.items m.rows.hands.items
        m'.rows.hands.items (w ∙ st.rows.0, st.rows.1) h;
    put = subst (λ (xs : List ℕ). PutSo m'.outlet.has_failed xs (told_of m'.outlet.start.value)
        (told_of m'.outlet.sink))
        (ap (λ (xs : List ℕ). bytes_of number cancels Says written s ++ xs) is
        ∙ sym (one_reply number cancels Says written s t y lane))
        (puts (bytes_of number cancels Says written s)
        (subst (λ (f : Bool). PutSo f (bytes_of number cancels Says written s)
        (told_of m.outlet.start.value) (told_of m.outlet.sink)) ok st.put));
    proper = proper_answered number cancels Says lane s t y b here mark says was st.proper;
  }

  pub stands_after : (m' : WorkQueue O X Y K) (h : List (Entry (Ask X Y) Told)) (lane : ℕ)
      (call : Ask X Y) (reply : Told)
      → St m' (cond (is_kept call reply) (moved number cancels (S number cancels h) lane call)
      (S number cancels h))
      → St m' (S number cancels (after (λ e. is_kept e.call e.reply) h (entry lane call reply)))
  stands_after m' h lane call reply st =
      subst (λ (s : State X Y). St m' s)
      (sym (by_kept number cancels (is_kept call reply) h lane call reply)) st

-- what the reader calls is heard
pub read_by : {X Y : Type 0} (s s' : State X Y) (lane : ℕ) → lane ≡ reader
    → cond (lane == reader) s' s ≡ s'
read_by {X} {Y} s s' lane is = ap (λ (b : Bool). cond b s' s) (eq-eqb lane reader is)

-- ---- one call

no_bytes : {X : Type 0} (x : X) (bytes : Vec ℕ)
    → Some (load.Request x) ≡ Some (load.Bytes bytes) → ⊥
no_bytes x bytes e = cc

abbrev request_in : {X : Type 0} → X → Option (Load X) → X
request_in other None = other
request_in other (Some (load.Request x)) = x
request_in other (Some (load.Task w)) = other
request_in other (Some (load.Bytes bytes)) = other

abbrev bytes_in : {X : Type 0} → Vec ℕ → Option (Load X) → Vec ℕ
bytes_in other None = other
bytes_in other (Some (load.Request x)) = other
bytes_in other (Some (load.Task w)) = other
bytes_in other (Some (load.Bytes bytes)) = bytes

module _ {O X Y K : Type 0} (number : X → ℤ) (cancels : X → Bool) (Says : X → Bool → Y → Type 0)
    (written : Y → List ℕ) (told_of : O → SinkTold) where
  pub turn_hear : (m m' : WorkQueue O X Y K) (lane : ℕ) (put : Option (Load X)) (x : X)
      → put ≡ Some (load.Request x) → m'.outlet.start ≡ m.outlet.start → m'.outlet ≡ m.outlet
      → m'.rows.waiting.items ≡ waiting_then number cancels x m.rows.waiting.items
      → m'.rows.hands.items ≡ hands_then number cancels x m.rows.hands.items
      → (call : Ask X Y) → HearOnly call
      → TurnsSo number cancels Says written told_of m lane call put told.Done None m'
  turn_hear m m' lane put x in_so start o w h (ask.Hear about) one = (
    start,
    λ s st goes.
        let is : x ≡ about.value = ap (request_in x) (sym in_so ∙ goes.1) in (
          inl refl,
          subst (λ (s' : State X Y). Stands number cancels Says written told_of m' s')
              (sym (read_by s (heard_by number cancels s about.value (cancels about.value)) lane
              goes.0))
              (subst (λ (y : X). Stands number cancels Says written told_of m'
              (heard_by number cancels s y (cancels y))) is
              (stands_heard number cancels Says written told_of m m' s x o w h st)),
          tt,
        ),
  )
  turn_hear m m' lane put x in_so start o w h (ask.Room depth) one = absurd one
  turn_hear m m' lane put x in_so start o w h ask.Take one = absurd one
  turn_hear m m' lane put x in_so start o w h ask.IsCancelled one = absurd one
  turn_hear m m' lane put x in_so start o w h (ask.Answer about) one = absurd one
  turn_hear m m' lane put x in_so start o w h ask.Close one = absurd one
  turn_hear m m' lane put x in_so start o w h ask.Halt one = absurd one

  answered_here : (m' : WorkQueue O X Y K) (s : State X Y) (lane : ℕ) (y : Y) (t : Task X)
      → task_at lane s.hands ≡ Some t
      → Stands number cancels Says written told_of m' (answered_by lane s y (Some t))
      → Stands number cancels Says written told_of m' (answered_by lane s y (task_at lane s.hands))
  answered_here m' s lane y t here st =
      subst (λ (o : Option (Task X)). Stands number cancels Says written told_of m'
      (answered_by lane s y o)) (sym here) st

  pub turn_answer : (m m' : WorkQueue O X Y K) (lane : ℕ) (put : Option (Load X)) (bytes : Vec ℕ)
      → put ≡ Some (load.Bytes bytes) → m'.outlet.start ≡ m.outlet.start
      → m.outlet.has_failed ≡ false → m'.rows.waiting.items ≡ m.rows.waiting.items
      → m'.rows.hands.items ≡ rows_without lane m.rows.hands.items
      → ((before : List ℕ)
      → PutSo false before (told_of m.outlet.start.value) (told_of m.outlet.sink)
      → PutSo m'.outlet.has_failed (before ++ bytes.items) (told_of m'.outlet.start.value)
      (told_of m'.outlet.sink))
      → (call : Ask X Y) → AnswerOnly call
      → TurnsSo number cancels Says written told_of m lane call put told.Done None m'
  turn_answer m m' lane put bytes in_so start ok w h puts (ask.Answer about) one = (
    start,
    λ s st goes.
        let is : bytes ≡ goes.1 = ap (bytes_in bytes) (sym in_so ∙ goes.4) in (
          inl refl,
          answered_here m' s lane about.value goes.0 goes.2
              (stands_answered number cancels Says written told_of m m' s lane goes.0 about.value
              goes.3.0 bytes.items ok w h puts goes.2 goes.3.1 goes.3.2 goes.3.3
              (ap (λ (v : Vec ℕ). v.items) is ∙ goes.5) st),
          tt,
        ),
  )
  turn_answer m m' lane put bytes in_so start ok w h puts (ask.Room depth) one = absurd one
  turn_answer m m' lane put bytes in_so start ok w h puts ask.Take one = absurd one
  turn_answer m m' lane put bytes in_so start ok w h puts ask.IsCancelled one = absurd one
  turn_answer m m' lane put bytes in_so start ok w h puts (ask.Hear about) one = absurd one
  turn_answer m m' lane put bytes in_so start ok w h puts ask.Close one = absurd one
  turn_answer m m' lane put bytes in_so start ok w h puts ask.Halt one = absurd one

  -- the first that waits, as the rows tell it
  waits_so : (m m' : WorkQueue O X Y K) (s : State X Y) (lane : ℕ) (w : Asked X)
      → HasTaken number lane m.rows.waiting.items m.rows.hands.items (Some w)
      m'.rows.waiting.items m'.rows.hands.items
      → Stands number cancels Says written told_of m s
      → (t : Task X) × (rest : List (Task X)) × (s.waiting ≡ t ∷ rest) × (w ≡ t.work)
  waits_so m m' s lane w h st =
      let r = rows_taken number cancels lane s s.waiting w m.rows.waiting.items
      m'.rows.waiting.items m.rows.hands.items m'.rows.hands.items refl st.rows h in
      (r.0, r.1, r.2, r.3)

  pub turn_take : (m m' : WorkQueue O X Y K) (lane : ℕ) (put : Option (Load X)) (w : Asked X)
      → m'.outlet ≡ m.outlet
      → HasTaken number lane m.rows.waiting.items m.rows.hands.items (Some w)
      m'.rows.waiting.items m'.rows.hands.items
      → (call : Ask X Y) → TakeOnly call
      → TurnsSo number cancels Says written told_of m lane call put told.Done
      (Some (load.Task w)) m'
  turn_take m m' lane put w o h ask.Take one = (
    ap (λ (out : Outlet O). out.start) o,
    λ s st goes.
        let r = waits_so m m' s lane w h st in (
          inl (ap has_some (sym r.2)),
          stands_taken number cancels Says written told_of m m' s lane w goes o h st,
          subst (λ (ts : List (Task X)). FirstIs ts (Some (load.Task w))) (sym r.2)
              (ap (λ (x : Asked X). Some (load.Task x)) r.3),
        ),
  )
  turn_take m m' lane put w o h (ask.Hear about) one = absurd one
  turn_take m m' lane put w o h (ask.Room depth) one = absurd one
  turn_take m m' lane put w o h ask.IsCancelled one = absurd one
  turn_take m m' lane put w o h (ask.Answer about) one = absurd one
  turn_take m m' lane put w o h ask.Close one = absurd one
  turn_take m m' lane put w o h ask.Halt one = absurd one

  pub turn_look : (m m' : WorkQueue O X Y K) (lane : ℕ) (put : Option (Load X)) (r : Told)
      → m'.outlet ≡ m.outlet
      → m'.rows.waiting.items ≡ m.rows.waiting.items → m'.rows.hands.items ≡ m.rows.hands.items
      → r ≡ cond (is_marked (row_at lane m.rows.hands.items)) told.Open told.Done
      → (call : Ask X Y) → LookOnly call
      → TurnsSo number cancels Says written told_of m lane call put r None m'
  turn_look m m' lane put r o w h is ask.IsCancelled one = (
    ap (λ (out : Outlet O). out.start) o,
    λ s st goes. (
      inl (is ∙ ap (λ (b : Bool). cond b told.Open told.Done)
          (ap (λ (hs : List Hand). is_marked (row_at lane hs)) st.rows.1
          ∙ hand_marked_so number lane s.hands)),
      stands_same number cancels Says written told_of m m' s o w h st,
      tt,
    ),
  )
  turn_look m m' lane put r o w h is (ask.Hear about) one = absurd one
  turn_look m m' lane put r o w h is (ask.Room depth) one = absurd one
  turn_look m m' lane put r o w h is ask.Take one = absurd one
  turn_look m m' lane put r o w h is (ask.Answer about) one = absurd one
  turn_look m m' lane put r o w h is ask.Close one = absurd one
  turn_look m m' lane put r o w h is ask.Halt one = absurd one

module _ {O X Y K : Type 0} (number : X → ℤ) (cancels : X → Bool) (Says : X → Bool → Y → Type 0)
    (written : Y → List ℕ) (told_of : O → SinkTold) where
  -- fewer than this wait, and the reader may have been told so
  roomed_so : (b : Bool) (m : WorkQueue O X Y K) (s : State X Y) (depth : ℕ)
      → length s.waiting < depth → Stands number cancels Says written told_of m s
      → Stands number cancels Says written told_of m (cond b (roomed depth s) s)
  roomed_so true m s depth lt st = record {
    rows = st.rows;
    put = st.put;
    proper = proper_roomed number cancels Says depth s lt st.proper;
  }
  roomed_so false m s depth lt st = st

  pub turn_room : (m : WorkQueue O X Y K) (lane depth : ℕ) (put : Option (Load X))
      → length m.rows.waiting.items < depth → (call : Ask X Y) → RoomOnly depth call
      → TurnsSo number cancels Says written told_of m lane call put told.Open None m
  turn_room m lane depth put lt (ask.Room asked) one = (
    refl,
    λ s st goes.
        let long = ap (λ (ws : List (Asked X)). length ws) st.rows.0
        ∙ length-map s.waiting (λ (t : Task X). t.work) in
        let few : length s.waiting < asked = omega (arith, long, lt, one) in (
          inl (ap (λ (b : Bool). cond b told.Open told.Idle)
              (sym (lt-ltb (length s.waiting) asked few))),
          roomed_so (lane == reader) m s asked few st,
          tt,
        ),
  )
  turn_room m lane depth put lt (ask.Hear about) one = absurd one
  turn_room m lane depth put lt ask.Take one = absurd one
  turn_room m lane depth put lt ask.IsCancelled one = absurd one
  turn_room m lane depth put lt (ask.Answer about) one = absurd one
  turn_room m lane depth put lt ask.Close one = absurd one
  turn_room m lane depth put lt ask.Halt one = absurd one

module _ {O X Y K : Type 0} (number : X → ℤ) (cancels : X → Bool) (Says : X → Bool → Y → Type 0)
    (written : Y → List ℕ) (told_of : O → SinkTold) where
  -- what is remembered of the lanes is no part of it
  pub turns_noted : (m mid new : WorkQueue O X Y K) (lane : ℕ) (call : Ask X Y)
      (put : Option (Load X)) (r : Told) (good : Option (Load X)) → new.outlet ≡ mid.outlet
      → new.rows.waiting.items ≡ mid.rows.waiting.items
      → new.rows.hands.items ≡ mid.rows.hands.items
      → TurnsSo number cancels Says written told_of m lane call put r good mid
      → TurnsSo number cancels Says written told_of m lane call put r good new
  turns_noted m mid new lane call put r good o w h t = (
    ap (λ (out : Outlet O). out.start) o ∙ t.0,
    λ s st goes.
        let all = t.1 s st goes in (
          all.0,
          stands_same number cancels Says written told_of mid new
              (cond (is_kept call r) (moved number cancels s lane call) s) o w h all.1,
          all.2,
        ),
  )
