use Rattle.std.proofs.Common.{◌≡◌, replicate}
use Rattle.action_list.specs.Uses.{no_use}
use Rattle.action_list.proofs.planning.no_uses.Given as goal

abbrev pub invariant-loop-key : goal.invariant-loop-key
invariant-loop-key l = l.uses.items ≡ replicate l._key no_use
