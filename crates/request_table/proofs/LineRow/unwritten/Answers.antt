use Rattle.std.proofs.Common.{ap, rules}
use Rattle.arrayvec.proofs.ArrayVecLemmas.{filter-from_retain}
use Rattle.request_table.proofs.Rowed.{row_of}
use Rattle.request_table.proofs.LineRow.unwritten.Goals as goal

pub returns : goal.returns
returns c = ap (row_of c.args.self.now.last) (filter-from_retain _ _ _ (λ x b f' y called. search rules) _ _ c.retain.ensures.filtered)
