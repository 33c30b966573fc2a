use Rattle.std.proofs.Common.{◌≡◌}
use Rattle.arrayvec.specs.ArrayVec.{array_vec_len}
use Rattle.shared_laws.specs.Spoken.{berths_from}
use Rattle.placed_berths.proofs.order.silent_berths.Given as goal

-- those so far
abbrev pub invariant-loop-berth : goal.invariant-loop-berth
invariant-loop-berth l = (l.spoken.items ≡ berths_from 0 l.berth)
    × (array_vec_len l.spoken ≡ l.berth)
