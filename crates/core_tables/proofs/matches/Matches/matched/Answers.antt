use Rattle.std.proofs.Common.{[], ◌∷◌, ◌++◌}
use Rattle.core_tables.proofs.Written.{row_written}
use Rattle.core_tables.proofs.matches.Matches.matched.Goals as goal

pub returns : goal.returns
returns c = row_written (λ xs. xs ++ c.args.found ∷ []) _ _ c.args.berth c.index_mut.result.now
    c.push.new.self c.self.view_is c.requires.known c.index_mut.ensures.value c.push.ensures.items
