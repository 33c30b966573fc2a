use Rattle.std.proofs.Common.{◌≡◌, List, nat_eq, subst}
use Rattle.ready_order.specs.declared.winner_tree.TheConstants.{ABSENT}
use Rattle.ready_order.specs.declared.ActionState.{ActionState}
use Rattle.ready_order.specs.Queue.{none_waits}
use Rattle.ready_order.proofs.Found.{waiting_is}
use Rattle.ready_order.proofs.Ready.all_settled.Goals as goal

pub returns : goal.returns
returns c =
    subst (λ (ss : List ActionState). nat_eq c.first_waiting.result ABSENT
    ≡ none_waits ss) c.self.view_is
    (waiting_is c.self.inside.actions.items c.self.inside.users c.self.inside.board
    c.self.invariant c.first_waiting.result c.first_waiting.ensures)
