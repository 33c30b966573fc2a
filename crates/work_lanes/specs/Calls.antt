-- What the calls of the lanes say of the queue's state.
use Rattle.std.specs.Prelude.{◌≡◌, ℕ, ℤ, ◌+◌, ◌≤◌, max, Bool, true, false, List, [], ◌∷◌, ◌++◌}
use Rattle.std.specs.Prelude.{length, Option, Some, None, Result, Ok, Err}
use Rattle.atomic_table.specs.Seated.{TableId}
use Rattle.plain_values.specs.declared.no_memory.NoMemory.{NoMemory}
use Rattle.seat_desk.specs.declared.machine.Machine.{Ghosts}
use Rattle.seat_desk.specs.declared.desk.Pass.{Pass}
use Rattle.plain_values.specs.declared.entry.Entry.{Entry}
use Rattle.seat_desk.specs.Passes.{seen, basis}
use Rattle.work_queue.specs.declared.queue.Ask.{Ask}
use Rattle.work_queue.specs.declared.queue.Ask.TheVariants as ask
use Rattle.work_queue.specs.declared.queue.Told.{Told}
use Rattle.work_queue.specs.declared.queue.Told.TheVariants as told
use Rattle.work_queue.specs.declared.queue.Load.{Load}
use Rattle.work_queue.specs.declared.queue.Load.TheVariants as load
use Rattle.work_queue.specs.declared.rows.Asked.{Asked}
use Rattle.work_queue.specs.States.{State, Task, Held, state_of, task_at, held, is_cancelled, begun_by}
use Rattle.work_queue.specs.States.{unless, is_kept}
use Rattle.work_queue.specs.States.{Read, read_in, roomed_in}
use Rattle.std.proofs.Common.{refl}

-- What a look at a lane's flag doesn't change: the lane and its desk, what the lane has begun, and
-- what it has in hand.
pub record Owner (X Q : Type 0) : Type 0 where
  pub desk : TableId
  pub lane : ℕ
  pub basis : Q
  pub begun : List X
  pub hand : Option (Held X)

module _ {X Y : Type 0} (number : X → ℤ) (cancels : X → Bool) where
  -- the queue after a history
  abbrev pub after_all : List (Entry (Ask X Y) Told) → State X Y
  after_all h = state_of number cancels h

  module _ {M G Q : Type 0} {g : Ghosts M (Ask X Y) Told G Q} where
    -- the state of the queue that a lane has seen last
    abbrev pub state_at : Pass M (Ask X Y) Told G Q g → State X Y
    state_at p = after_all (seen p)

    -- all that had been heard then
    abbrev pub heard_at : Pass M (Ask X Y) Told G Q g → List X
    heard_at p = (state_at p).heard

    -- what the reader had done then
    abbrev pub read_at : Pass M (Ask X Y) Told G Q g → Read X
    read_at p = read_in (state_at p)

    -- the most that ever might wait by then
    abbrev pub most_at : Pass M (Ask X Y) Told G Q g → ℕ
    most_at p = (state_at p).most

    -- the requests that the lane had begun then, in order, but for those that were cancelled before
    abbrev pub begun_at : Pass M (Ask X Y) Told G Q g → List X
    begun_at p = begun_by p.lane (state_at p).taken

    -- whose pass it is
    abbrev pub owner_at : Pass M (Ask X Y) Told G Q g → Owner X Q
    owner_at p = record {
      desk = p.seat.table_id;
      lane = p.lane;
      basis = basis p;
      begun = begun_at p;
      hand = held (task_at p.lane (state_at p).hands);
    }

    -- whether what the lane has in hand was cancelled by then
    abbrev pub raised_at : Pass M (Ask X Y) Told G Q g → Bool
    raised_at p = is_cancelled (task_at p.lane (state_at p).hands)

-- a reply that says that there is nothing for the lane now
abbrev pub is_idle : Told → Bool
is_idle told.Done = false
is_idle told.Open = false
is_idle told.Idle = true
is_idle told.Closed = false

-- no request came out with the reply
abbrev pub GivesNone : {X : Type 0} → Told → Option (Load X) → Type 0
GivesNone {X} reply good = (w : Asked X) → reply ≡ told.Done → good ≡ Some (load.Task w) → ⊥

-- a call that wasn't done says lack of memory
abbrev pub done_by : Told → Result (Unit {0}) NoMemory
done_by told.Done = Ok tt
done_by told.Open = Err (record {})
done_by told.Idle = Err (record {})
done_by told.Closed = Err (record {})

abbrev pub is_open : Told → Bool
is_open told.Done = false
is_open told.Open = true
is_open told.Idle = false
is_open told.Closed = false

false_not_true : false ≡ true → ⊥
false_not_true e = cc

pub idle_not_kept : {X Y : Type 0} (c : Ask X Y) (r : Told) → is_idle r ≡ true
    → is_kept c r ≡ false
idle_not_kept c told.Done e = absurd (false_not_true e)
idle_not_kept c told.Open e = absurd (false_not_true e)
idle_not_kept c told.Closed e = absurd (false_not_true e)
idle_not_kept (ask.Hear request) told.Idle e = refl
idle_not_kept (ask.Room depth) told.Idle e = refl
idle_not_kept ask.Take told.Idle e = refl
idle_not_kept ask.IsCancelled told.Idle e = refl
idle_not_kept (ask.Answer response) told.Idle e = refl
idle_not_kept ask.Close told.Idle e = refl
idle_not_kept ask.Halt told.Idle e = refl

module _ {X Y : Type 0} where
  -- The lane has this request in hand, which was cancelled by the time that it was begun, or wasn't,
  -- and where b says so it is cancelled now.
  pub record InHand (lane : ℕ) (m : X) (was b : Bool) (s : State X Y) : Type 0 where
    pub task : Task X
    pub here : task_at lane s.hands ≡ Some task
    pub is : task.work.request ≡ m
    pub begun : task.was ≡ was
    pub marked : b ≡ true → task.work.cancelled ≡ true

  abbrev pub HasTaken : ℕ → Result (Option (Asked X)) NoMemory → State X Y → Type 0
  HasTaken lane (Ok (Some w)) s = InHand lane w.request w.cancelled w.cancelled s
  HasTaken lane (Ok None) s = Unit {0}
  HasTaken lane (Err e) s = Unit {0}

-- what a lane had begun, and what it has begun behind a Take
abbrev pub HasBegun : {X : Type 0} → Result (Option (Asked X)) NoMemory → List X → List X → Type 0
HasBegun (Ok (Some w)) old new = new ≡ old ++ unless w.cancelled w.request
HasBegun (Ok None) old new = new ≡ old
HasBegun (Err e) old new = new ≡ old

-- The reader was told that fewer than this wait, or all is over.
abbrev pub HasRoom : {X : Type 0} → ℕ → Result Bool NoMemory → Read X → Read X → Type 0
HasRoom depth (Ok true) old new = new ≡ roomed_in depth old
HasRoom depth (Ok false) old new = new ≡ old
HasRoom depth (Err e) old new = new ≡ old

-- Requests were heard, and at most as many more may wait.
pub record HearsMore {X : Type 0} (old new : Read X) : Type 0 where
  pub count : ℕ
  pub heard : length new.heard ≡ length old.heard + count
  pub room : new.room ≤ old.room + count
  pub most : new.most ≤ max old.most (old.room + count)

-- the request was heard, or all is over
abbrev pub HasHeard : {X : Type 0} → X → Result (Unit {0}) NoMemory → List X → List X → Type 0
HasHeard m (Ok done) old new = new ≡ old ++ m ∷ []
HasHeard m (Err e) old new = new ≡ old
