-- Room that was made for what a run leaves.
use Rattle.std.specs.Prelude.{◌≡◌, ◌+◌, ◌≤◌, ℕ, [], vec_len, vec_capacity}
use Rattle.std.specs.Global.{Vec}
use Rattle.lane_runs.specs.declared.blank.Blank.{Blank}

-- the list is empty, with room for so many
pub record HasRoom {X : Type 0} (n : ℕ) (v : Vec X) : Type 0 where
  pub empty : v.items ≡ []
  pub room : vec_len v + n ≤ vec_capacity v

-- so are the lists of berths, of lines, of lines that weren't reported, one for each berth, and of
-- places
pub record IsBlankFor {B D T K P : Type 0} (berths lines places : ℕ) (blank : Blank B D T K P)
    : Type 0 where
  pub berths_fit : HasRoom berths blank.berths
  pub lines_fit : HasRoom lines blank.lines
  pub unsaid_fit : HasRoom berths blank.unsaid
  pub places_fit : HasRoom places blank.places
