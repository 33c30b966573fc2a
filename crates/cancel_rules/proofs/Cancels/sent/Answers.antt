use Rattle.std.proofs.Common.{[], ◌∷◌, ◌++◌, ap, ◌∙◌}
use Rattle.std.proofs.Math.Facts.{to_z-of_z}
use Rattle.cancel_rules.specs.Marks.{sent_row}
use Rattle.cancel_rules.proofs.Marked.{row_written}
use Rattle.cancel_rules.proofs.Cancels.sent.Goals as goal

pub returns : goal.returns
returns c =
    row_written (λ xs. xs ++ sent_row c.args.number c.args.action ∷ []) _ _ c.args.line c.index_mut.result.now c.push.new.self c.self.view_is c.requires.known c.index_mut.ensures.value
    (c.push.ensures.items ∙ ap (λ z. c.index_mut.result.now.items ++ sent_row z c.args.action ∷ []) (to_z-of_z c.ranges.number))
