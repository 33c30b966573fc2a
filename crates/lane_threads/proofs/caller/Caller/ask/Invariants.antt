use Rattle.lane_threads.proofs.Callings.{NothingKept}
use Rattle.lane_threads.proofs.caller.Caller.ask.Given as goal

abbrev pub invariant-loop : goal.invariant-loop
invariant-loop g l = (goal.iterator-loop g).can_next l.iterator' × (goal.iterator-loop g).is_finite l.iterator' × NothingKept l.fn.self.pass l.self.pass
