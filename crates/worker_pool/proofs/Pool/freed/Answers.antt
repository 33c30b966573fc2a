use Rattle.worker_pool.specs.Rows.{one_fewer}
use Rattle.worker_pool.proofs.Updates.{written}
use Rattle.worker_pool.proofs.Pool.freed.Goals as goal

pub returns : goal.returns
returns c = written one_fewer _ _ c.args.line c.index_mut-row.result.now c.self.view_is c.requires.known c.index_mut-row.ensures.value
