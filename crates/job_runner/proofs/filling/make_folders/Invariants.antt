use Rattle.std.proofs.Common.{take}
use Rattle.job_runner.specs.Calls.{Whole, Does}
use Rattle.job_runner.specs.Jobs.{folder_asks}
use Rattle.job_runner.proofs.filling.make_folders.Given as goal

abbrev pub invariant-loop-output : goal.invariant-loop-output
invariant-loop-output g l = Does Whole (folder_asks l.folder (take l.output-index l.outputs))
    (g.S.Shop.told l.initial.shop) (g.S.Shop.told l.shop)
