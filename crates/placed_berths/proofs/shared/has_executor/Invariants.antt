use Rattle.std.proofs.Common.{◌≡◌, false, take, Some}
use Rattle.std.specs.List.{list_any}
use Rattle.exec_journal.specs.Seated.{kind_in}
use Rattle.run_plan.specs.Groups.{is_remote}
use Rattle.placed_berths.proofs.shared.has_executor.Given as goal

-- none so far
abbrev pub invariant-loop-group : goal.invariant-loop-group
invariant-loop-group l = list_any (λ g. is_remote (kind_in l.plan (Some g)))
    (take l.group-index l.pool.groups) ≡ false
