use Rattle.std.proofs.Common.{rules}
use Rattle.request_table.specs.Rows.{reopened_row}
use Rattle.request_table.proofs.Rowed.{on_line_written}
use Rattle.request_table.proofs.Requests.reopened.Goals as goal

pub returns-in-Ok : goal.returns-in-Ok
returns-in-Ok c = on_line_written reopened_row _ _ c.args.line c.in-Ok.number c.args.number c.index_mut.result.now c.reopened.new.self (search rules) c.self.view_is c.requires c.index_mut.ensures.value c.reopened.ensures
