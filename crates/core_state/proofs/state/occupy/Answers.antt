use Rattle.request_table.proofs.Lists.{update_length}
use Rattle.worker_pool.specs.Rows.{one_more}
use Rattle.core_state.proofs.state.occupy.Goals as goal

pub unbound-requires : goal.unbound-requires
unbound-requires c =
    let same = update_length one_more c.args.pool.now.lines c.args.line in
    rw c.sent.ensures (rw same c.requires.known)
