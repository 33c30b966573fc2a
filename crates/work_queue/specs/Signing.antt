-- What a queue remembers of its lanes from call to call, and whom it names.
use Rattle.std.specs.Prelude.{◌≡◌, ℕ, ◌||◌, Bool, true, false, cond, length}
use Rattle.work_queue.specs.declared.signs.Signs.{Signs}
use Rattle.work_queue.specs.declared.queue.WorkQueue.{WorkQueue}
use Rattle.work_queue.specs.declared.queue.Ask.{Ask}
use Rattle.work_queue.specs.declared.queue.Ask.TheVariants as ask
use Rattle.work_queue.specs.declared.queue.Told.{Told}
use Rattle.work_queue.specs.declared.queue.Told.TheVariants as told
use Rattle.work_queue.specs.Resting.{NamesLanes, RestsThen}

abbrev pub is_idle : Told → Bool
is_idle told.Done = false
is_idle told.Open = false
is_idle told.Idle = true
is_idle told.Closed = false

-- what is remembered stays
abbrev pub KeepsSigns : Signs → Signs → Type 0
KeepsSigns old new =
    (new.resting ≡ old.resting) × ((new.depth ≡ old.depth) × (new.is_closing ≡ old.is_closing))

module _ {X Y : Type 0} where
  -- the depth that the reader asked for when it was told Idle last
  abbrev pub depth_then : Ask X Y → Told → ℕ → ℕ
  depth_then (ask.Room depth) r old = cond (is_idle r) depth old
  depth_then (ask.Hear request) r old = old
  depth_then ask.Take r old = old
  depth_then ask.IsCancelled r old = old
  depth_then (ask.Answer response) r old = old
  depth_then ask.Close r old = old
  depth_then ask.Halt r old = old

  abbrev pub closes : Ask X Y → Bool
  closes ask.Close = true
  closes (ask.Room depth) = false
  closes (ask.Hear request) = false
  closes ask.Take = false
  closes ask.IsCancelled = false
  closes (ask.Answer response) = false
  closes ask.Halt = false

  abbrev pub HaltsSo : Ask X Y → Bool → Type 0
  HaltsSo ask.Halt halted = halted ≡ true
  HaltsSo ask.Close halted = Unit {0}
  HaltsSo (ask.Room depth) halted = Unit {0}
  HaltsSo (ask.Hear request) halted = Unit {0}
  HaltsSo ask.Take halted = Unit {0}
  HaltsSo ask.IsCancelled halted = Unit {0}
  HaltsSo (ask.Answer response) halted = Unit {0}

module _ {O X Y K : Type 0} where
  -- no more comes, or nothing changes any more
  abbrev pub is_ending : WorkQueue O X Y K → Bool
  is_ending m = m.signs.is_closing || (m.outlet.has_failed || m.signs.is_halted)

  -- the lanes that rest and are to look again
  abbrev pub NamesWork : WorkQueue O X Y K → ℕ → Type 0
  NamesWork m lanes = NamesLanes (is_ending m) (length m.rows.waiting.items) m.signs.depth
      m.signs.resting lanes

  -- A lane that was told Idle rests, and one that was told anything else doesn't.
  pub record NotesSo (m : WorkQueue O X Y K) (lane : ℕ) (call : Ask X Y) (r : Told)
      (m' : WorkQueue O X Y K) : Type 0 where
    pub rests : RestsThen lane (is_idle r) m.signs.resting m'.signs.resting
    pub depth : m'.signs.depth ≡ depth_then call r m.signs.depth
    pub closing : m'.signs.is_closing ≡ m.signs.is_closing || closes call
    pub halts : HaltsSo call m'.signs.is_halted
    pub closed : r ≡ told.Closed → is_ending m' ≡ true
