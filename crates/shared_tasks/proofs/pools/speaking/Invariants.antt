use Rattle.std.proofs.Common.{◌≡◌, ◌++◌, drop}
use Rattle.shared_tasks.specs.Pools.{speaking_from}
use Rattle.shared_tasks.proofs.pools.speaking.Given as goal

abbrev pub invariant-loop-part : goal.invariant-loop-part
invariant-loop-part l = (l.number ≡ l.part-index)
    × (l.groups.items ++ speaking_from l.speech l.number (drop l.part-index l.parts)
    ≡ speaking_from l.speech 0 l.parts)
