use Rattle.std.proofs.Common.{◌≡◌}
use Rattle.request_table.specs.Rows.{with_cancel}
use Rattle.request_table.proofs.Rowed.{map_first}
use Rattle.request_table.proofs.set_cancelled.Given as goal

-- those so far are changed
abbrev pub invariant-loop-place : goal.invariant-loop-place
invariant-loop-place l = l.places ≡ map_first (with_cancel l.number) l.place-index l.initial.places
