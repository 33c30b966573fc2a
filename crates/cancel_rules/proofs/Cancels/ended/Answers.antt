use Rattle.std.proofs.Common.{[], rules}
use Rattle.cancel_rules.proofs.Marked.{row_written}
use Rattle.cancel_rules.proofs.Cancels.ended.Goals as goal

pub returns : goal.returns
returns c = row_written (λ _. []) _ _ c.args.line c.index_mut.result.now _ c.self.view_is c.requires c.index_mut.ensures.value (search rules)
