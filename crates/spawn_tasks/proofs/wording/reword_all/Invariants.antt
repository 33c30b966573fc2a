use Rattle.spawn_tasks.specs.Wording.{all_worded}
use Rattle.spawn_tasks.proofs.Worded.{SoFar}
use Rattle.spawn_tasks.proofs.wording.reword_all.Given as goal

abbrev pub invariant-loop-number : goal.invariant-loop-number
invariant-loop-number l = SoFar (all_worded l.names l.actions l.initial.works)
    l.initial.works l.number l.works
