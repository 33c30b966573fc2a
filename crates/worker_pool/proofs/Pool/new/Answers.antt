use Rattle.std.proofs.Common.{rules}
use Rattle.worker_pool.proofs.New.{stands_by}
use Rattle.worker_pool.proofs.Pool.new.Goals as goal

pub returns-clause-stands : goal.returns-clause-stands
returns-clause-stands c = stands_by c.args.plan.now c.args.seats _ (search rules)
