-- Who rests, and who of them is named, lanes being the bits of a number: bit k is lane k.
use Rattle.std.specs.Prelude.{◌≡◌, ◌≢◌, ℕ, ◌<◌, ◌==◌, Bool, true, false, cond}
use Rattle.std.specs.Int.{bit_at}
use Rattle.work_queue.specs.States.{reader}

-- the lane is one of these
abbrev pub Names : ℕ → ℕ → Type 0
Names lanes lane = bit_at lanes lane ≡ 1

abbrev pub bit_for : Bool → ℕ
bit_for true = 1
bit_for false = 0

-- one of these lanes, if there is any
pub record NamesOne (lanes one : ℕ) : Type 0 where
  pub some : (lane : ℕ) → Names lanes lane → (other : ℕ) × Names lanes other × Names one other
  pub only : (lane : ℕ) → Names one lane → Names lanes lane

-- whether the lane rests after a reply; all others as before
abbrev pub RestsThen : ℕ → Bool → ℕ → ℕ → Type 0
RestsThen lane idle old new =
    (k : ℕ) → k < 128 → bit_at new k ≡ cond (k == lane) (bit_for idle) (bit_at old k)

-- The lanes, where so many requests wait, the reader asked for less than this depth, and these
-- lanes rest.
pub record NamesLanes (ending : Bool) (waiting depth resting lanes : ℕ) : Type 0 where
  -- no more comes, or all is over: all that rest
  pub ends : ending ≡ true → (lane : ℕ) → Names resting lane → Names lanes lane
  -- there is room: the reader, if it rests
  pub room : waiting < depth → Names resting reader → Names lanes reader
  -- a request waits: one of the others that rest, if any does
  pub waits : 0 < waiting → (lane : ℕ) → lane < 128 → lane ≢ reader → Names resting lane
      → (other : ℕ) × (other ≢ reader) × Names resting other × Names lanes other
  -- and none but lanes that rest
  pub only : (lane : ℕ) → Names lanes lane → Names resting lane

-- the reader, if it rests and there is room
pub record NamesReader (waiting depth resting lanes : ℕ) : Type 0 where
  pub some : waiting < depth → Names resting reader → Names lanes reader
  pub only : (lane : ℕ) → Names lanes lane → Names resting lane

-- one of the other lanes that rest, if a request waits
pub record NamesHand (waiting resting lanes : ℕ) : Type 0 where
  pub some : 0 < waiting → (lane : ℕ) → lane < 128 → lane ≢ reader → Names resting lane
      → (other : ℕ) × (other ≢ reader) × Names resting other × Names lanes other
  pub only : (lane : ℕ) → Names lanes lane → Names resting lane
