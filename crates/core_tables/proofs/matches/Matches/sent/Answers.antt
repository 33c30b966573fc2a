use Rattle.std.proofs.Common.{[]}
use Rattle.core_tables.proofs.Written.{row_written}
use Rattle.core_tables.proofs.matches.Matches.sent.Goals as goal

pub returns : goal.returns
returns c = row_written (λ xs. []) _ _ c.args.berth c.index_mut.result.now c.clear.new.self
    c.self.view_is c.requires c.index_mut.ensures.value c.clear.ensures
