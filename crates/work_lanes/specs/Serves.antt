-- What the lanes do from the start of the input to its end.
use Rattle.std.specs.Prelude.{◌≡◌, ℕ, ℤ, ◌+◌, ◌≤◌, ◌++◌, Bool, List, Some, map, length}
use Rattle.std.specs.List.{flat_map, AllByRecursion}
use Rattle.outside.specs.Lists.{Adds}
use Rattle.outside.specs.Told.{TapTold, SinkTold}
use Rattle.delimited_framing.specs.Front.{Form}
use Rattle.message_service.specs.declared.finish.Finish.{Finish}
use Rattle.message_service.specs.declared.finish.Finish.TheVariants as finish
use Rattle.message_service.specs.Ends.{PutsBy, CausedBy}
use Rattle.message_service.specs.Serves.{ReadsBy}
use Rattle.work_queue.specs.States.{Reply, IsReply, InHand, IsTaken, asked_from, times}
use Rattle.work_lanes.specs.Handles.{EachFollows}

-- so many lanes answer
abbrev pub AreHandlers : ℕ → Type 0
AreHandlers n = (1 ≤ n) × (n ≤ 64)

-- so many requests may wait
abbrev pub IsDepth : ℕ → Type 0
IsDepth n = (1 ≤ n) × (n ≤ 1024)

-- The most bytes of one read. No more requests come with it, since each takes a byte.
abbrev pub piece : ℕ
piece = 65536

-- what the tap and the sink tell at one moment
pub record Outside : Type 0 where
  pub tap : TapTold
  pub sink : SinkTold

abbrev pub told_by : {T O : Type 0} → (T → TapTold) → (O → SinkTold) → T → O → Outside
told_by tap_told sink_told tap sink = record { tap = tap_told tap; sink = sink_told sink }

-- the places of the requests that were answered, in the order in which they were
abbrev pub answered : {Y : Type 0} → List (Reply Y) → List ℕ
answered replies = map (λ r. r.place) replies

-- Each of these is answered once, and nothing else is; or where memory ran out or putting failed,
-- at most once.
abbrev pub AnswersBy : Finish → List ℕ → List ℕ → Type 0
AnswersBy finish.AtEnd these those = (k : ℕ) → times k these ≡ times k those
AnswersBy finish.BadInput these those = (k : ℕ) → times k these ≡ times k those
AnswersBy finish.InputFault these those = (k : ℕ) → times k these ≡ times k those
AnswersBy finish.TooLong these those = (k : ℕ) → times k these ≡ times k those
AnswersBy finish.NoMemory these those = (k : ℕ) → times k these ≤ times k those
AnswersBy finish.OutputFault these those = (k : ℕ) → times k these ≤ times k those

module _ {X Y : Type 0} (number : X → ℤ) (cancels : X → Bool) (Says : X → Bool → Y → Type 0)
    (written : Y → List ℕ) (form : Form) (Spells : List ℕ → X → Type 0) where
  -- The bytes taken spell these requests. What was put is what had been, and then these responses,
  -- each whole, one after another. Each is said to the request at its place. It says that it was
  -- cancelled only where a request that cancels its number stands behind it, and it does so where one
  -- did by the time that a lane took the request. What lanes took, in the order in which they took it,
  -- are the first of the requests that are to be answered. Whenever a lane took one, and in the end, no
  -- more waited than the depth and the requests of one read.
  pub record Serves (depth : ℕ) (f : Finish) (before : List ℕ) (old new : Outside) : Type 0 where
    pub bytes : List ℕ
    pub requests : List X
    pub replies : List (Reply Y)
    pub begun : List (InHand X)
    pub taken : Adds bytes old.tap.taken new.tap.taken
    pub reads : ReadsBy form Spells f bytes requests
    pub caused : CausedBy f bytes old.tap new.tap
    pub put : PutsBy (Some f) (before ++ flat_map (λ r. written r.response) replies) old.sink
        new.sink
    pub said : AllByRecursion (IsReply number cancels Says requests) replies
    pub once : AnswersBy f (answered replies) (asked_from number cancels 0 requests)
    pub took : AllByRecursion (IsTaken number cancels requests (depth + piece)) begun
    pub order : (rest : List ℕ) × (length rest ≤ depth + piece)
        × (map (λ h. h.task.place) begun ++ rest ≡ asked_from number cancels 0 requests)

  module _ {H : Type 0} (answers : H → X → Y → H → Type 0) (breaks : H → X → H → Type 0) where
    -- So do lanes with these handlers. Each request that was taken was taken by one of them, and each
    -- handler has answered those that its lane took, in order, each once, and done nothing else.
    pub record ServesBy (depth : ℕ) (f : Finish) (before : List ℕ) (olds news : List H)
        (old new : Outside) : Type 0 where
      pub serves : Serves depth f before old new
      pub lanes : AllByRecursion (λ h. h.lane ≤ length olds) serves.begun
      pub each : EachFollows answers breaks 1 serves.begun olds news

-- no more is read for what the input said, or for lack of memory
abbrev pub IsOfReading : Finish → Type 0
IsOfReading finish.AtEnd = Unit {0}
IsOfReading finish.NoMemory = Unit {0}
IsOfReading finish.BadInput = Unit {0}
IsOfReading finish.InputFault = Unit {0}
IsOfReading finish.OutputFault = ⊥
IsOfReading finish.TooLong = Unit {0}

module _ (form : Form) {X : Type 0} (Spells : List ℕ → X → Type 0) where
  -- These requests were read, and why no more are.
  pub record HasRead (f : Finish) (requests : List X) (old new : TapTold) : Type 0 where
    pub bytes : List ℕ
    pub taken : Adds bytes old.taken new.taken
    pub reads : ReadsBy form Spells f bytes requests
    pub caused : CausedBy f bytes old new
    pub kind : IsOfReading f
