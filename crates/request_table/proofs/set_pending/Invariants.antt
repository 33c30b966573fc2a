use Rattle.std.proofs.Common.{◌≡◌}
use Rattle.request_table.specs.Rows.{with_pending}
use Rattle.request_table.proofs.Rowed.{map_first}
use Rattle.request_table.proofs.set_pending.Given as goal

-- those so far are changed
abbrev pub invariant-loop-place : goal.invariant-loop-place
invariant-loop-place l = l.places ≡ map_first (with_pending l.number l.pending) l.place-index l.initial.places
