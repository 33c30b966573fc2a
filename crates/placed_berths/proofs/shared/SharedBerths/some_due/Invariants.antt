use Rattle.std.proofs.Common.{◌≡◌, false, take}
use Rattle.std.specs.List.{list_any}
use Rattle.placed_berths.specs.Basis.{shared_by}
use Rattle.placed_berths.specs.Pooled.{is_starved}
use Rattle.placed_berths.proofs.shared.SharedBerths.some_due.Given as goal

-- none so far
abbrev pub invariant-loop-group : goal.invariant-loop-group
invariant-loop-group l =
    list_any (is_starved (shared_by l.self l.state.plan) l.delay l.state l.pool)
    (take l.group-index l.pool.groups) ≡ false
