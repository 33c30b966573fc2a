use Rattle.std.proofs.Common.{arith}
use Rattle.worker_pool.specs.Rows.{one_more}
use Rattle.worker_pool.proofs.Updates.{written, pending_read, capacity_read}
use Rattle.worker_pool.proofs.Pool.sent.Goals as goal

pub returns : goal.returns
returns c = written one_more _ _ c.args.line c.index_mut-row.result.now c.self.view_is c.requires.known c.index_mut-row.ensures.value

pub overflow_add-row : goal.overflow_add-row
overflow_add-row c =
    let pending = pending_read _ _ c.args.line c.index_mut-row.result.now c.self.view_is c.requires.known c.index_mut-row.ensures.value in
    let capacity = capacity_read _ _ c.args.line c.index_mut-row.result.now c.self.view_is c.requires.known c.index_mut-row.ensures.value in
    omega (arith, pending, capacity, c.requires.place)
