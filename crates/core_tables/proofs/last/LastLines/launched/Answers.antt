use Rattle.core_tables.specs.Last.{no_line, set_launched}
use Rattle.core_tables.proofs.Written.{replaced}
use Rattle.core_tables.proofs.last.LastLines.launched.Goals as goal

pub returns : goal.returns
returns c = replaced (set_launched c.args.attempt no_line) _ _ c.args.berth c.self.view_is
    c.requires
