use Rattle.seat_desk.specs.Passes.{IsSamePass}
use Rattle.message_box.specs.Sides.{state_at, TakerStands}
use Rattle.message_box.proofs.taking.take.Given as goal

-- What the taker did stands.
abbrev pub invariant-loop : goal.invariant-loop
invariant-loop g l = IsSamePass l.initial.caller.pass l.caller.pass
    × TakerStands (state_at l.initial.caller.pass) (state_at l.caller.pass)
