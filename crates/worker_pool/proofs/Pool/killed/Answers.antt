use Rattle.worker_pool.specs.Rows.{set_killed}
use Rattle.worker_pool.proofs.Updates.{written}
use Rattle.worker_pool.proofs.Pool.killed.Goals as goal

pub returns : goal.returns
returns c = written set_killed _ _ c.args.line c.index_mut-row.result.now c.self.view_is c.requires c.index_mut-row.ensures.value
