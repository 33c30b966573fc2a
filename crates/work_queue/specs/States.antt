-- What a work queue has after a history, and what it answers then.
use Rattle.std.specs.Prelude.{◌≡◌, ℕ, ◌+◌, ◌==◌, ◌&&◌, ◌≤◌, ℤ, Bool, true, false, cond, List}
use Rattle.std.specs.Prelude.{[], ◌∷◌, ◌++◌, length, map, max, Option, Some, None, ltb}
use Rattle.std.specs.Global.{Vec}
use Rattle.std.specs.List.{fold, flat_map, list_any, AllByRecursion}
use Rattle.std.specs.Ordering.{int_eq}
use Rattle.outside.specs.Causes.{Rose}
use Rattle.outside.specs.Lists.{Adds, AddsFront}
use Rattle.outside.specs.Told.{SinkTold}
use Rattle.plain_values.specs.declared.entry.Entry.{Entry}
use Rattle.work_queue.specs.declared.rows.Asked.{Asked}
use Rattle.work_queue.specs.declared.queue.Ask.{Ask}
use Rattle.work_queue.specs.declared.queue.Ask.TheVariants as ask
use Rattle.work_queue.specs.declared.queue.Told.{Told}
use Rattle.work_queue.specs.declared.queue.Told.TheVariants as told
use Rattle.work_queue.specs.declared.queue.Load.{Load}
use Rattle.work_queue.specs.declared.queue.Load.TheVariants as load
use Rattle.work_queue.specs.Rows.{asked_marked, new_asked}

-- the number of the lane that reads
abbrev pub reader : ℕ
reader = 0

-- A request that was heard, at its place among all that were heard, and whether it was cancelled.
-- Of one that a lane has begun: whether it was cancelled by then, and how many were heard by then.
pub record Task (X : Type 0) : Type 0 where
  pub place : ℕ
  pub work : Asked X
  pub was : Bool
  pub heard : ℕ

-- a request in the hand of a lane
pub record InHand (X : Type 0) : Type 0 where
  pub lane : ℕ
  pub task : Task X

-- What stays the same of a request while a lane has it in hand: the request, and whether it was
-- cancelled by the time that the lane began it.
pub record Held (X : Type 0) : Type 0 where
  pub request : X
  pub was : Bool

-- what was answered to the request at this place, and how many were heard when it was begun
pub record Reply (Y : Type 0) : Type 0 where
  pub place : ℕ
  pub heard : ℕ
  pub response : Y

-- All that was heard, with the requests that cancel others; what waits, what is in hand, what was
-- answered, and what lanes have taken, as it was then, each in its order. How many may wait: the
-- depth below which there was room when the reader was told so last, and one more for each request
-- that waits since. And the most that ever might.
pub record State (X Y : Type 0) : Type 0 where
  pub heard : List X
  pub waiting : List (Task X)
  pub hands : List (InHand X)
  pub replies : List (Reply Y)
  pub taken : List (InHand X)
  pub room : ℕ
  pub most : ℕ

-- what the reader has done: what was heard, how many may wait, and the most that ever might
pub record Read (X : Type 0) : Type 0 where
  pub heard : List X
  pub room : ℕ
  pub most : ℕ

-- once the reader was told that fewer than this wait
abbrev pub roomed_in : {X : Type 0} → ℕ → Read X → Read X
roomed_in depth r = record { heard = r.heard; room = depth; most = max r.most depth }

-- once a request was heard, which cancels others or waits
abbrev pub heard_in : {X : Type 0} → X → Bool → Read X → Read X
heard_in m true r = record { heard = r.heard ++ m ∷ []; room = r.room; most = r.most }
heard_in m false r = record {
  heard = r.heard ++ m ∷ [];
  room = r.room + 1;
  most = max r.most (r.room + 1);
}

-- these bytes were put
pub record PutAll (bytes : List ℕ) (old new : SinkTold) : Type 0 where
  pub given : Adds bytes old.contents new.contents
  pub count : old.faults ≤ new.faults

-- some front of them was put, and the sink failed
pub record PutFront (bytes : List ℕ) (old new : SinkTold) : Type 0 where
  pub given : AddsFront bytes old.contents new.contents
  pub count : old.faults ≤ new.faults
  pub rose : Rose old.faults new.faults

abbrev pub PutSo : Bool → List ℕ → SinkTold → SinkTold → Type 0
PutSo false bytes old new = PutAll bytes old new
PutSo true bytes old new = PutFront bytes old new

module _ {X : Type 0} where
  -- the request that this lane took last and hasn't answered
  abbrev pub task_at : ℕ → List (InHand X) → Option (Task X)
  task_at lane [] = None
  task_at lane (h ∷ hs) = cond (h.lane == lane) (Some h.task) (task_at lane hs)

  abbrev pub hands_without : ℕ → List (InHand X) → List (InHand X)
  hands_without lane [] = []
  hands_without lane (h ∷ hs) = cond (h.lane == lane) hs (h ∷ hands_without lane hs)

  abbrev pub unless : Bool → X → List X
  unless true m = []
  unless false m = m ∷ []

  -- the requests that this lane has begun, in order, but for those that were cancelled by then
  abbrev pub begun_by : ℕ → List (InHand X) → List X
  begun_by lane hs =
      flat_map (λ h. cond (h.lane == lane) (unless h.task.was h.task.work.request) []) hs

  abbrev pub is_cancelled : Option (Task X) → Bool
  is_cancelled None = false
  is_cancelled (Some t) = t.work.cancelled

  abbrev pub held : Option (Task X) → Option (Held X)
  held None = None
  held (Some t) = Some (record { request = t.work.request; was = t.was })

  abbrev pub has_some : List (Task X) → Told
  has_some [] = told.Idle
  has_some (t ∷ ts) = told.Done

-- the task, once a lane has begun it when so many were heard
abbrev pub begun : {X : Type 0} → ℕ → Task X → Task X
begun n t = record { place = t.place; work = t.work; was = t.work.cancelled; heard = n }

module _ {X : Type 0} (number : X → ℤ) where
  -- the task, once the request of this number is cancelled
  abbrev pub task_marked : ℤ → Task X → Task X
  task_marked n t = record {
    place = t.place;
    work = asked_marked number n t.work;
    was = t.was;
    heard = t.heard;
  }

  abbrev pub new_task : ℕ → X → Task X
  new_task k m = record { place = k; work = new_asked number m; was = false; heard = 0 }

  abbrev pub in_hand_marked : ℤ → InHand X → InHand X
  in_hand_marked n h = record { lane = h.lane; task = task_marked n h.task }

module _ {X : Type 0} (number : X → ℤ) (cancels : X → Bool) where
  -- one of these cancels the request of this number
  abbrev pub has_cancel : ℤ → List X → Bool
  has_cancel n behind = list_any (λ m. cancels m && int_eq n (number m)) behind

  -- The request stands at its place among those that were heard. It is cancelled exactly where one
  -- behind it cancels its number.
  pub record IsTask (heard : List X) (t : Task X) : Type 0 where
    pub before : List X
    pub behind : List X
    pub stands : heard ≡ before ++ t.work.request ∷ behind
    pub place : length before ≡ t.place
    pub asks : cancels t.work.request ≡ false
    pub marked : t.work.cancelled ≡ has_cancel (number t.work.request) behind

  -- A lane has the request in hand. It was cancelled when it was begun exactly where one that
  -- cancels its number stood behind it by then, and is cancelled now where one does.
  pub record IsBegun (heard : List X) (t : Task X) : Type 0 where
    pub before : List X
    pub between : List X
    pub behind : List X
    pub stands : heard ≡ before ++ t.work.request ∷ (between ++ behind)
    pub place : length before ≡ t.place
    pub begun : length before + 1 + length between ≡ t.heard
    pub asks : cancels t.work.request ≡ false
    pub was : t.was ≡ has_cancel (number t.work.request) between
    pub marked : t.work.cancelled ≡ has_cancel (number t.work.request) (between ++ behind)

  -- the places of the requests that are to be answered: those that don't cancel
  abbrev pub asked_from : ℕ → List X → List ℕ
  asked_from k [] = []
  asked_from k (m ∷ ms) = cond (cancels m) (asked_from (k + 1) ms) (k ∷ asked_from (k + 1) ms)

  -- A lane that doesn't read has taken the request at its place, when so many were heard. It was
  -- cancelled by then exactly where one that cancels its number stood behind it. At most so many
  -- waited then: it, and those that had been heard behind it and are to be answered.
  pub record IsTaken (heard : List X) (most : ℕ) (h : InHand X) : Type 0 where
    pub hand : h.lane ≡ reader → ⊥
    pub before : List X
    pub between : List X
    pub behind : List X
    pub stands : heard ≡ before ++ h.task.work.request ∷ (between ++ behind)
    pub place : length before ≡ h.task.place
    pub begun : length before + 1 + length between ≡ h.task.heard
    pub asks : cancels h.task.work.request ≡ false
    pub was : h.task.was ≡ has_cancel (number h.task.work.request) between
    pub waited : 1 + length (asked_from 0 between) ≤ most

-- ---- calls and replies

abbrev pub is_done : Told → Bool
is_done told.Done = true
is_done told.Open = false
is_done told.Idle = false
is_done told.Closed = false

abbrev pub is_short : Told → Bool
is_short told.Done = false
is_short told.Open = false
is_short told.Idle = false
is_short told.Closed = true

abbrev pub is_open : Told → Bool
is_open told.Done = false
is_open told.Open = true
is_open told.Idle = false
is_open told.Closed = false

module _ {X Y : Type 0} where
  -- the calls that changed what waits, what is in hand, what was answered or how many may wait
  abbrev pub is_kept : Ask X Y → Told → Bool
  is_kept (ask.Hear request) r = is_done r
  is_kept (ask.Room depth) r = is_open r
  is_kept ask.Take r = is_done r
  is_kept ask.IsCancelled r = false
  is_kept (ask.Answer response) r = is_done r
  is_kept ask.Close r = false
  is_kept ask.Halt r = false

  -- the calls that take no memory
  abbrev pub IsPaid : Ask X Y → Type 0
  IsPaid (ask.Hear request) = ⊥
  IsPaid (ask.Room depth) = ⊥
  IsPaid ask.Take = ⊥
  IsPaid ask.IsCancelled = ⊥
  IsPaid (ask.Answer response) = ⊥
  IsPaid ask.Close = Unit {0}
  IsPaid ask.Halt = Unit {0}

  abbrev pub MayBeShort : Ask X Y → Type 0
  MayBeShort (ask.Hear request) = Unit {0}
  MayBeShort (ask.Room depth) = Unit {0}
  MayBeShort ask.Take = Unit {0}
  MayBeShort ask.IsCancelled = Unit {0}
  MayBeShort (ask.Answer response) = Unit {0}
  MayBeShort ask.Close = ⊥
  MayBeShort ask.Halt = ⊥

  -- the reply to each call
  abbrev pub answer_to : State X Y → ℕ → Ask X Y → Told
  answer_to s lane (ask.Hear request) = told.Done
  answer_to s lane (ask.Room depth) =
      cond (ltb (length s.waiting) depth) told.Open told.Idle
  answer_to s lane ask.Take = has_some s.waiting
  answer_to s lane ask.IsCancelled = cond (is_cancelled (task_at lane s.hands)) told.Open told.Done
  answer_to s lane (ask.Answer response) = told.Done
  answer_to s lane ask.Close = told.Done
  answer_to s lane ask.Halt = told.Done

  abbrev pub first : State X Y
  first = record {
    heard = [];
    waiting = [];
    hands = [];
    replies = [];
    taken = [];
    room = 0;
    most = 0;
  }

  -- what the reader has done
  abbrev pub read_in : State X Y → Read X
  read_in s = record { heard = s.heard; room = s.room; most = s.most }

  -- the state after the reader was told that fewer than this wait
  abbrev pub roomed : ℕ → State X Y → State X Y
  roomed depth s = record {
    heard = s.heard;
    waiting = s.waiting;
    hands = s.hands;
    replies = s.replies;
    taken = s.taken;
    room = depth;
    most = max s.most depth;
  }

  -- the state after the lane has taken the first of these
  abbrev pub taken_by : ℕ → State X Y → List (Task X) → State X Y
  taken_by lane s [] = s
  taken_by lane s (t ∷ ts) = record {
    heard = s.heard;
    waiting = ts;
    hands = (record { lane = lane; task = begun (length s.heard) t }) ∷ s.hands;
    replies = s.replies;
    taken = s.taken ++ (record { lane = lane; task = begun (length s.heard) t }) ∷ [];
    room = s.room;
    most = s.most;
  }

  -- the state after the lane has answered so what it has in hand
  abbrev pub answered_by : ℕ → State X Y → Y → Option (Task X) → State X Y
  answered_by lane s r None = s
  answered_by lane s r (Some t) = record {
    heard = s.heard;
    waiting = s.waiting;
    hands = hands_without lane s.hands;
    replies = s.replies ++ (record { place = t.place; heard = t.heard; response = r }) ∷ [];
    taken = s.taken;
    room = s.room;
    most = s.most;
  }

  module _ (number : X → ℤ) (cancels : X → Bool) where
    -- the state after a request was heard: one that cancels marks those of its number that aren't
    -- answered, and any other waits
    abbrev pub heard_by : State X Y → X → Bool → State X Y
    heard_by s m true = record {
      heard = s.heard ++ m ∷ [];
      waiting = map (task_marked number (number m)) s.waiting;
      hands = map (in_hand_marked number (number m)) s.hands;
      replies = s.replies;
      taken = s.taken;
      room = s.room;
      most = s.most;
    }
    heard_by s m false = record {
      heard = s.heard ++ m ∷ [];
      waiting = s.waiting
          ++ new_task number (length s.heard) m ∷ [];
      hands = s.hands;
      replies = s.replies;
      taken = s.taken;
      room = s.room + 1;
      most = max s.most (s.room + 1);
    }

    -- the state after a call that was kept
    abbrev pub moved : State X Y → ℕ → Ask X Y → State X Y
    moved s lane (ask.Hear request) =
        cond (lane == reader) (heard_by s request.value (cancels request.value)) s
    moved s lane ask.Take = taken_by lane s s.waiting
    moved s lane (ask.Answer response) =
        answered_by lane s response.value (task_at lane s.hands)
    moved s lane (ask.Room depth) = cond (lane == reader) (roomed depth s) s
    moved s lane ask.IsCancelled = s
    moved s lane ask.Close = s
    moved s lane ask.Halt = s

    abbrev pub state_then : State X Y → Entry (Ask X Y) Told → State X Y
    state_then s e = moved s e.lane e.call

    -- the state after a history
    abbrev pub state_of : List (Entry (Ask X Y) Told) → State X Y
    state_of h = fold state_then first h

    module _ (Says : X → Bool → Y → Type 0) where
      -- The response is said to the request at its place. It is that of a cancelled request where
      -- one that cancels its number stood behind it by the time that it was begun, and only where
      -- one stands behind it at all.
      pub record IsReply (heard : List X) (r : Reply Y) : Type 0 where
        pub request : X
        pub before : List X
        pub between : List X
        pub behind : List X
        pub stands : heard ≡ before ++ request ∷ (between ++ behind)
        pub place : length before ≡ r.place
        pub begun : length before + 1 + length between ≡ r.heard
        pub asks : cancels request ≡ false
        pub cancelled : Bool
        pub given_up : has_cancel number cancels (number request) between ≡ true
            → cancelled ≡ true
        pub marked : cancelled ≡ true
            → has_cancel number cancels (number request) (between ++ behind) ≡ true
        pub says : Says request cancelled r.response

-- how often k stands among these
abbrev pub times : ℕ → List ℕ → ℕ
times k [] = 0
times k (x ∷ xs) = cond (k == x) 1 0 + times k xs

module _ {X Y : Type 0} where
  abbrev pub places_waiting : State X Y → List ℕ
  places_waiting s = map (λ t. t.place) s.waiting

  abbrev pub places_in_hand : State X Y → List ℕ
  places_in_hand s = map (λ h. h.task.place) s.hands

  abbrev pub places_answered : State X Y → List ℕ
  places_answered s = map (λ r. r.place) s.replies

  abbrev pub places_taken : State X Y → List ℕ
  places_taken s = map (λ h. h.task.place) s.taken

  module _ (number : X → ℤ) (cancels : X → Bool) (Says : X → Bool → Y → Type 0) where
    -- Whatever waits, is in hand or was answered stands at its place, and each request that is to
    -- be answered waits, is in hand or was answered, once. What was taken, in the order in which it
    -- was taken, and then what waits are the requests that are to be answered, in their order. No more
    -- wait than may.
    pub record IsProper (s : State X Y) : Type 0 where
      pub waits : AllByRecursion (IsTask number cancels s.heard) s.waiting
      pub holds : AllByRecursion (λ h. IsBegun number cancels s.heard h.task) s.hands
      pub said : AllByRecursion (IsReply number cancels Says s.heard) s.replies
      pub each : (k : ℕ)
          → times k (places_waiting s) + times k (places_in_hand s) + times k (places_answered s)
          ≡ times k (asked_from number cancels 0 s.heard)
      pub took : AllByRecursion (IsTaken number cancels s.heard s.most) s.taken
      pub order : places_taken s ++ places_waiting s ≡ asked_from number cancels 0 s.heard
      pub room : length s.waiting ≤ s.room
      pub most : s.room ≤ s.most

    module _ (written : Y → List ℕ) where
      -- what was put for these
      abbrev pub put_by : List (Reply Y) → List ℕ
      put_by replies = flat_map (λ r. written r.response) replies

      -- what may go in with a call, and who may make it: the request that is heard, by the reader;
      -- the bytes of a response that may be said to what the lane has in hand. The reader takes none.
      abbrev pub GoesIn : State X Y → ℕ → Ask X Y → Option (Load X) → Type 0
      GoesIn s lane (ask.Hear request) put =
          (lane ≡ reader) × (put ≡ Some (load.Request request.value))
      GoesIn s lane (ask.Answer response) put =
          (t : Task X) × (bytes : Vec ℕ) × (task_at lane s.hands ≡ Some t)
          × ((b : Bool) × (b ≡ true → t.work.cancelled ≡ true)
          × Says t.work.request b response.value × (t.was ≡ true → b ≡ true))
          × (put ≡ Some (load.Bytes bytes)) × (bytes.items ≡ written response.value)
      GoesIn s lane (ask.Room depth) put = Unit {0}
      GoesIn s lane ask.Take put = lane ≡ reader → ⊥
      GoesIn s lane ask.IsCancelled put = Unit {0}
      GoesIn s lane ask.Close put = Unit {0}
      GoesIn s lane ask.Halt put = Unit {0}

-- the first of these comes out with a Take that is Done
abbrev pub FirstIs : {X : Type 0} → List (Task X) → Option (Load X) → Type 0
FirstIs [] good = Unit {0}
FirstIs (t ∷ ts) good = good ≡ Some (load.Task t.work)

abbrev pub Gives : {X : Type 0} → List (Task X) → Told → Option (Load X) → Type 0
Gives ts told.Done good = FirstIs ts good
Gives ts told.Open good = Unit {0}
Gives ts told.Idle good = Unit {0}
Gives ts told.Closed good = Unit {0}

abbrev pub ComesOut : {X Y : Type 0} → State X Y → Ask X Y → Told → Option (Load X) → Type 0
ComesOut s ask.Take reply good = Gives s.waiting reply good
ComesOut s (ask.Hear request) reply good = Unit {0}
ComesOut s (ask.Room depth) reply good = Unit {0}
ComesOut s ask.IsCancelled reply good = Unit {0}
ComesOut s (ask.Answer response) reply good = Unit {0}
ComesOut s ask.Close reply good = Unit {0}
ComesOut s ask.Halt reply good = Unit {0}
