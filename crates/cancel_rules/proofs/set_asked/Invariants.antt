use Rattle.std.proofs.Common.{◌≡◌}
use Rattle.request_table.proofs.Rowed.{map_first}
use Rattle.cancel_rules.specs.Marks.{with_ask}
use Rattle.cancel_rules.proofs.set_asked.Given as goal

-- those so far are changed
abbrev pub invariant-loop-place : goal.invariant-loop-place
invariant-loop-place l = l.places ≡ map_first (with_ask l.number) l.place-index l.initial.places
