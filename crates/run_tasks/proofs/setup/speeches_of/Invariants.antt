use Rattle.std.proofs.Common.{◌≡◌, ◌++◌}
use Rattle.std.specs.Iterator.Adapters.{zip_first, zip_second}
use Rattle.std.specs.Slice.Iter.{iter_rest}
use Rattle.run_tasks.specs.Setup.{speeches_for}
use Rattle.run_tasks.proofs.AtBerths.{speeches}
use Rattle.run_tasks.proofs.setup.speeches_of.Given as goal

abbrev pub invariant-loop-group : goal.invariant-loop-group
invariant-loop-group l =
    l.speeches.items ++ speeches (iter_rest (zip_first l.group-iterator))
    (iter_rest (zip_second l.group-iterator)) ≡ speeches_for l.plan l.parts
