use Rattle.ready_order.proofs.Firsts.{new_firsts}
use Rattle.ready_order.proofs.queues.Queues.new.Goals as goal

pub invariant_of-result : goal.invariant_of-result
invariant_of-result c =
    rw (c.in_ok-queues.ensures {u = tt}, c.in_ok-firsts.ensures {u = tt})
    (new_firsts c.args.groups c.args.places c.requires.few)
