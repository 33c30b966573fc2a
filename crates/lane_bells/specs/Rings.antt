-- What one who rings bells has done.
use Rattle.std.specs.Prelude.{◌≡◌, ℕ, ◌+◌, ◌%◌, ◌^◌}
use Rattle.lane_bells.specs.declared.bells.Ringer.{Ringer}

-- it has rung once more, these lanes
pub record Rings (r : Ringer) (lanes : ℕ) (r' : Ringer) : Type 0 where
  pub bells : r'.bells.now ≡ r.bells.now
  pub once : r'.rings ≡ (r.rings + 1) % 2 ^ 64
  pub these : r'.last ≡ lanes
