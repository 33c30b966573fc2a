use Rattle.std.proofs.Common.{length, ap}
use Rattle.request_table.proofs.Lists.{update_length}
use Rattle.ready_order.specs.Queue.{granted_state}
use Rattle.core_state.specs.declared.state.State.{State}
use Rattle.core_state.proofs.state.State.claim.Goals as goal

pub settle-requires : goal.settle-requires
settle-requires c =
    let same = ap (λ (s : State). length s.ready) c.grant-reply.ensures.state in
    let kept = update_length granted_state c.args.self.now.ready c.args.attempt.action in
    rw same (rw kept c.requires.ends.states_known)
