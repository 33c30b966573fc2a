-- What lies on the shelf after a history.
use Rattle.std.specs.Prelude.{ℕ, ◌/◌, ◌==◌, List, [], Option, Some, None, if◌then◌else◌}
use Rattle.std.specs.List.{fold}
use Rattle.exec_journal.specs.declared.call.CommitEnd.{CommitEnd}
use Rattle.core_contract.specs.Moves.{Past, History, Move, PutLine, TakeTap, TakeChild, GiveUp, TakePlace, PutPlace, Nothing, move_of}

-- the line whose child lies in the berth's seat
abbrev pub child_by : Option ℕ → Move → Option ℕ
child_by o (PutLine l) = Some l
child_by o (TakeChild l) = None
child_by o GiveUp = None
child_by o (TakeTap l) = o
child_by o (TakePlace a fs) = o
child_by o (PutPlace a how) = o
child_by o Nothing = o

-- the line whose tap lies in the berth's seat
abbrev pub tap_by : Option ℕ → Move → Option ℕ
tap_by o (PutLine l) = Some l
tap_by o (TakeTap l) = None
tap_by o (TakeChild l) = o
tap_by o GiveUp = o
tap_by o (TakePlace a fs) = o
tap_by o (PutPlace a how) = o
tap_by o Nothing = o

-- what came of an action's place
pub data Spot : Type 0 where
  -- it lies there, and nobody has taken it
  Fresh : Spot
  -- it was taken, for these files
  Away : List (List ℕ) → Spot
  -- it lies there again: these files were to be committed, and this is how that ended
  Back : List (List ℕ) → CommitEnd → Spot

abbrev pub files_of_spot : Spot → List (List ℕ)
files_of_spot Fresh = []
files_of_spot (Away fs) = fs
files_of_spot (Back fs how) = fs

abbrev pub place_by : ℕ → Spot → Move → Spot
place_by a s (TakePlace b fs) = if b == a then Away fs else s
place_by a s (PutPlace b how) = if b == a then Back (files_of_spot s) how else s
place_by a s (PutLine l) = s
place_by a s (TakeTap l) = s
place_by a s (TakeChild l) = s
place_by a s GiveUp = s
place_by a s Nothing = s

abbrev pub child_then : ℕ → Option ℕ → Past → Option ℕ
child_then w o e = if e.lane / 2 == w then child_by o (move_of e) else o

abbrev pub tap_then : ℕ → Option ℕ → Past → Option ℕ
tap_then w o e = if e.lane / 2 == w then tap_by o (move_of e) else o

abbrev pub place_then : ℕ → Spot → Past → Spot
place_then a s e = place_by a s (move_of e)

-- the line whose child lies on the shelf for the berth w
abbrev pub child_at : ℕ → History → Option ℕ
child_at w h = fold (child_then w) None h

-- the line whose tap does
abbrev pub tap_at : ℕ → History → Option ℕ
tap_at w h = fold (tap_then w) None h

-- the spot of the action's place
abbrev pub place_at : ℕ → History → Spot
place_at a h = fold (place_then a) Fresh h
