use Rattle.std.proofs.Common.{rules}
use Rattle.request_table.specs.Rows.{answered_row}
use Rattle.request_table.proofs.Rowed.{on_line_written}
use Rattle.request_table.proofs.Requests.answer.Goals as goal

pub returns-clause-facts : goal.returns-clause-facts
returns-clause-facts c = on_line_written answered_row _ _ c.args.line c.in-Ok.number c.args.number c.index_mut.result.now c.answer.new.self (search rules) c.self.view_is c.requires c.index_mut.ensures.value c.answer.ensures.row
