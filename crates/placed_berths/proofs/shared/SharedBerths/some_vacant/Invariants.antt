use Rattle.std.proofs.Common.{◌≡◌, false}
use Rattle.shared_laws.specs.Berths.{some_vacant}
use Rattle.placed_berths.specs.Basis.{shared_by}
use Rattle.placed_berths.proofs.shared.SharedBerths.some_vacant.Given as goal

-- none so far
abbrev pub invariant-loop-other : goal.invariant-loop-other
invariant-loop-other l = some_vacant (shared_by l.self l.state.plan) l.state l.berth l.other ≡ false
