use Rattle.std.proofs.Common.{◌≡◌, ◌++◌, replicate}
use Rattle.run_tasks.proofs.setup.add_speeches.Given as goal

abbrev pub invariant-loop-berth : goal.invariant-loop-berth
invariant-loop-berth l =
    l.speeches.items ≡ l.initial.speeches.items ++ replicate l._berth l.part.speech
