use Rattle.std.proofs.Common.{◌≡◌, false}
use Rattle.earliest_first.specs.Choices.{some_room}
use Rattle.earliest_first.proofs.some_room.Given as goal

-- none so far
abbrev pub invariant-loop-number : goal.invariant-loop-number
invariant-loop-number l = some_room l.state.pool l.seat.first l.number ≡ false
