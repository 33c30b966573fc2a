use Rattle.std.proofs.Common.{map}
use Rattle.ready_order.specs.Board.{AreUsers, shapes}
use Rattle.ready_order.proofs.users.Users.of.Given as goal

abbrev pub invariant-loop-number : goal.invariant-loop-number
invariant-loop-number l = AreUsers (shapes l.actions) l.number (map (λ v. v.items) l.lists.items)
