use Rattle.std.proofs.Common.{◌≡◌, false}
use Rattle.shared_laws.specs.Berths.{some_free}
use Rattle.placed_berths.proofs.lines.some_free.Given as goal

-- none so far
abbrev pub invariant-loop-berth : goal.invariant-loop-berth
invariant-loop-berth l = some_free l.state l.group l.berth ≡ false
