use Rattle.std.proofs.Common.{◌≡◌}
use Rattle.core_state.specs.Machine.{unbound_for}
use Rattle.core_state.proofs.state.unbind.Given as goal

-- those so far are unbound
abbrev pub invariant-loop-berth : goal.invariant-loop-berth
invariant-loop-berth l = l.pool ≡ unbound_for l.initial.pool l.last l.action l.berth
