use Rattle.std.proofs.Common.{Option, ap, sym, unwrap_or, ◌∙◌}
use Rattle.worker_pool.specs.declared.LineRow.{LineRow}
use Rattle.worker_pool.specs.Rows.{new_line}
use Rattle.core_state.specs.Machine.{sent}
use Rattle.core_state.proofs.state.State.send.Goals as goal

pub returns-clause-state : goal.returns-clause-state
returns-clause-state c =
    let row = ap (λ (o : Option LineRow). (unwrap_or o (new_line 0)).bound) c.line-bound.ensures in
    c.send_as.ensures.state ∙ ap (sent c.args.self.now c.args.berth c.args.line c.args.attempt) (sym row)
