use Rattle.std.proofs.Common.{◌-◌, ◌≡◌, ◌<◌, ◌≤◌, All}
use Rattle.seat_desk.specs.Passes.{IsPassOf, IsRootOf}
use Rattle.desk_trials.proofs.rings.passes.Given as goal

abbrev pub invariant-loop-made : goal.invariant-loop-made
invariant-loop-made g l = IsRootOf l.desk l.root × (l.root.made ≡ l.made) × (l.made ≤ l.lanes) × All (λ p. IsPassOf l.desk p × (p.lane < l.lanes)) l.passes.items

abbrev pub decreases-loop-made : goal.decreases-loop-made
decreases-loop-made g l = l.lanes - l.made
