use Rattle.std.proofs.Common.{ap, ◌∙◌, arith}
use Rattle.worker_pool.specs.Rows.{new_line}
use Rattle.worker_pool.proofs.Updates.{launched}
use Rattle.worker_pool.proofs.Pool.launch.Goals as goal

pub returns-clause-facts : goal.returns-clause-facts
returns-clause-facts c =
    launched _ _ c.args.berth c.len-line.result c.args.kind _ _ c.new-row.result _ c.self.view_is c.requires.known c.index_mut.ensures.value
    (omega arith) (c.new-row.ensures ∙ ap new_line c.capacity_of.ensures) c.push_reserved.ensures.items c.push_reserved.ensures.capacity
