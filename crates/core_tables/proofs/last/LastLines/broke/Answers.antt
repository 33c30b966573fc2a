use Rattle.core_tables.specs.Last.{set_cause}
use Rattle.core_tables.proofs.Written.{written}
use Rattle.core_tables.proofs.last.LastLines.broke.Goals as goal

pub returns : goal.returns
returns c = written (set_cause c.args.cause) _ _ c.args.berth c.index-row.result.now
    c.with_cause.result c.self.view_is c.requires c.index-row.ensures c.with_cause.ensures
