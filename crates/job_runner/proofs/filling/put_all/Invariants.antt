use Rattle.std.proofs.Common.{map, take}
use Rattle.job_runner.specs.Calls.{Whole, Does}
use Rattle.job_runner.specs.Jobs.{put_ask}
use Rattle.job_runner.proofs.filling.put_all.Given as goal

abbrev pub invariant-loop-input : goal.invariant-loop-input
invariant-loop-input g l = Does Whole (map (put_ask l.folder) (take l.input-index l.inputs))
    (g.S.Shop.told l.initial.shop) (g.S.Shop.told l.shop)
