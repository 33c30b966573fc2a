use Rattle.std.proofs.Common.{◌≡◌, ◌+◌, drop}
use Rattle.core_tables.specs.Seats.{seat_from}
use Rattle.core_tables.proofs.berth_group.seat_in.Given as goal

abbrev pub invariant-loop-number : goal.invariant-loop-number
invariant-loop-number l = (seat_from l.number l.first (drop l.number l.groups) l.rest
    ≡ seat_from 0 0 l.groups l.berth) × (l.first + l.rest ≡ l.berth)
