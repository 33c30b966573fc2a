use Rattle.seat_desk.specs.Passes.{IsSamePass}
use Rattle.message_box.specs.Sides.{state_at, ReaderStands}
use Rattle.message_box.proofs.reading.await_room.Given as goal

-- What the reader did stands.
abbrev pub invariant-loop : goal.invariant-loop
invariant-loop g l = IsSamePass l.initial.caller.pass l.caller.pass
    × ReaderStands (state_at l.initial.caller.pass) (state_at l.caller.pass)
