use Rattle.std.proofs.Common.{◌≡◌}
use Rattle.line_worker.proofs.LineCounterHandler.handle.Given as goal

-- The flag keeps its owner.
abbrev pub invariant-loop-word : goal.invariant-loop-word
invariant-loop-word g l =
    (goal.iterator-loop-word g).can_next l.word-iterator
    × (goal.iterator-loop-word g).is_finite l.word-iterator
    × (g.F.Flag.owner l.flag ≡ g.F.Flag.owner l.initial.flag)
