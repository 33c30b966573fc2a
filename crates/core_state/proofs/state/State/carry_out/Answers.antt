use Rattle.std.proofs.Common.{subst}
use Rattle.core_state.specs.declared.choice.Choice.{Choice}
use Rattle.core_state.specs.Machine.{CanCarry}
use Rattle.core_state.proofs.Carried.{cancel_is}
use Rattle.core_state.proofs.state.State.carry_out.Goals as goal

pub returns-in-Cancel-clause-state : goal.returns-in-Cancel-clause-state
returns-in-Cancel-clause-state c =
    let can = subst (λ (x : Choice). CanCarry c.args.self.now c.args.berth x) c.in-Cancel.is
    c.requires in
    cancel_is c.args.self.now c.cancel.new.self c.args.berth c.in-Cancel.line c.in-Cancel.number
    c.args.choice can c.cancel.ensures.state c.in-Cancel.is
