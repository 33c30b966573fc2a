use Rattle.request_table.specs.Rows.{ended_row}
use Rattle.request_table.proofs.Rowed.{row_written}
use Rattle.request_table.proofs.Requests.ended.Goals as goal

pub returns : goal.returns
returns c = row_written ended_row _ _ c.args.line c.index_mut.result.now c.ended.new.self c.self.view_is c.requires c.index_mut.ensures.value c.ended.ensures
