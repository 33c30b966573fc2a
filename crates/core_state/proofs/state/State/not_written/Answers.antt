use Rattle.std.proofs.Common.{ap, sym, ◌∙◌}
use Rattle.std.proofs.Math.Facts.{to_z-of_z}
use Rattle.core_state.specs.Machine.{order_on}
use Rattle.core_state.specs.Reports.{sent_in, unwritten_by, unwritten_with}
use Rattle.core_state.proofs.state.State.not_written.Goals as goal

pub returns-in-Send-clause-state : goal.returns-in-Send-clause-state
returns-in-Send-clause-state c =
    let sent = ap (λ o. sent_in (order_on o)) c.state.ensures ∙ ap sent_in c.in-Send.is in
    c.unwritten.ensures.state
    ∙ ap (λ n. unwritten_with c.args.self.now c.args.berth c.args.line n c.in-Send.attempt)
    (to_z-of_z c.ranges.number)
    ∙ ap (unwritten_by c.args.self.now c.args.berth c.args.line c.args.number) (sym sent)
