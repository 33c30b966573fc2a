use Rattle.race_core.specs.Rows.{committed_row}
use Rattle.race_core.proofs.Kept.{written}
use Rattle.race_core.proofs.Race.committed.Goals as goal

pub returns : goal.returns
returns c = written (committed_row c.args.done) _ _ c.args.action c.index-row.result.now c.commit.result c.self.view_is c.requires c.index-row.ensures c.commit.ensures
