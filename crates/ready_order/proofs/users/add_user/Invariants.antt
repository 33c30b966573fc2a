use Rattle.std.proofs.Common.{map, take}
use Rattle.ready_order.specs.Board.{IsAdded}
use Rattle.ready_order.proofs.users.add_user.Given as goal

abbrev pub invariant-loop-producer : goal.invariant-loop-producer
invariant-loop-producer l =
    IsAdded (take l.producer-index l.producers) l.user (map (λ v. v.items) l.initial.lists) (map
    (λ v. v.items) l.lists)
