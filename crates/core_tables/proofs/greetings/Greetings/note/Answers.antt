use Rattle.core_tables.specs.Greetings.{said_by}
use Rattle.core_tables.proofs.Written.{written}
use Rattle.core_tables.proofs.greetings.Greetings.note.Goals as goal

pub returns : goal.returns
returns c = written (said_by c.args.call.now c.args.reply.now) _ _ c.args.berth
    c.index-row.result.now c.after.result c.self.view_is c.requires c.index-row.ensures
    c.after.ensures
