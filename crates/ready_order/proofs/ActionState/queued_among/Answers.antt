use Rattle.ready_order.proofs.Among.{local_queued, remote_queued}
use Rattle.ready_order.proofs.ActionState.queued_among.Goals as goal

pub may_begin_among-requires : goal.may_begin_among-requires
may_begin_among-requires g c = λ group h.
    c.requires group (local_queued c.args.ready group c.args.self.now h)

pub may_begin_among-requires-else-may_begin_among
    : goal.may_begin_among-requires-else-may_begin_among
may_begin_among-requires-else-may_begin_among g c = λ group h.
    c.requires group (remote_queued c.args.ready group c.args.self.now h)
