use Rattle.std.proofs.Common.{◌≡◌, map, []}
use Rattle.std.specs.Prelude.{replicate}
use Rattle.ready_order.proofs.users.empty_lists.Given as goal

abbrev pub invariant-loop-action : goal.invariant-loop-action
invariant-loop-action l = map (λ v. v.items) l.lists.items ≡ replicate l._action []
