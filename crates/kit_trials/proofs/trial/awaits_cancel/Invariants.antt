use Rattle.std.proofs.Common.{◌≡◌}
use Rattle.kit_trials.proofs.trial.awaits_cancel.Given as goal

-- The flag keeps its owner.
abbrev pub invariant-loop : goal.invariant-loop
invariant-loop g l = g.F.Flag.owner l.flag ≡ g.F.Flag.owner l.initial.flag
