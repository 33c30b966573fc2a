use Rattle.std.proofs.Common.{filter, rules}
use Rattle.arrayvec.proofs.ArrayVecLemmas.{filter-from_retain}
use Rattle.cancel_rules.specs.Marks.{is_other}
use Rattle.cancel_rules.proofs.Marked.{row_written}
use Rattle.cancel_rules.proofs.Cancels.gone.Goals as goal

pub returns : goal.returns
returns c =
    row_written (filter (is_other c.args.number)) _ _ c.args.line c.index_mut.result.now c.retain.new.self c.self.view_is c.requires c.index_mut.ensures.value
    (filter-from_retain _ (is_other c.args.number) _ (λ x b f' y called. search rules) _ _ c.retain.ensures.filtered)
