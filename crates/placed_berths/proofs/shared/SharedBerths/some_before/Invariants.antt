use Rattle.std.proofs.Common.{◌≡◌, false}
use Rattle.placed_berths.specs.Basis.{shared_by}
use Rattle.placed_berths.specs.Pooled.{some_before}
use Rattle.placed_berths.proofs.shared.SharedBerths.some_before.Given as goal

-- none so far
abbrev pub invariant-loop-other : goal.invariant-loop-other
invariant-loop-other l = some_before (shared_by l.self l.state.plan) l.delay l.state
    l.self.spoken.items l.berth l.other ≡ false
