use Rattle.std.proofs.Common.{drop}
use Rattle.job_runner.proofs.Looks.{Looked}
use Rattle.job_runner.proofs.collecting.collect.Given as goal

-- The outputs before this one were looked at.
abbrev pub invariant-loop-output : goal.invariant-loop-output
invariant-loop-output g l = Looked l.folder l.outputs l.files.items (drop l.output-index l.outputs)
    (g.S.Shop.told l.initial.shop) (g.S.Shop.told l.shop)
