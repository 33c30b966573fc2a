use Rattle.core_tables.specs.Lanes.{worked}
use Rattle.core_tables.proofs.Written.{written}
use Rattle.core_tables.proofs.lanes.Lanes.note.Goals as goal

pub returns : goal.returns
returns c = written (worked c.args.call.now c.args.reply.now) _ _ c.args.lane
    c.index-state.result.now c.worked.result c.self.view_is c.requires c.index-state.ensures
    c.worked.ensures
