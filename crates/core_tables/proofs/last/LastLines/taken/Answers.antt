use Rattle.std.proofs.Common.{refl}
use Rattle.core_tables.specs.Last.{set_taken}
use Rattle.core_tables.proofs.Written.{written}
use Rattle.core_tables.proofs.last.LastLines.taken.Goals as goal

pub returns : goal.returns
returns c = written set_taken _ _ c.args.berth c.index-row.result.now _ c.self.view_is c.requires
    c.index-row.ensures refl
