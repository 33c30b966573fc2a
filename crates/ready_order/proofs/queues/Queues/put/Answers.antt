use Rattle.std.proofs.Common.{arith}
use Rattle.ready_order.proofs.Firsts.{put_firsts}
use Rattle.ready_order.proofs.queues.Queues.put.Goals as goal

pub invariant_of-self : goal.invariant_of-self
invariant_of-self c =
    let range = c.least-first.type_inv in
    rw c.put-2.ensures
    (put_firsts c.self.inside.queues.items c.self.inside.firsts c.args.group c.put.new.self
    c.least-first.result (omega arith) c.least-first.ensures c.self.invariant)
