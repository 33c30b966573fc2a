use Rattle.std.proofs.Common.{ap, ◌∙◌}
use Rattle.request_table.specs.Rows.{sent_row}
use Rattle.request_table.proofs.Rowed.{row_written, next_is}
use Rattle.request_table.proofs.Requests.send.Goals as goal

pub returns-clause-facts : goal.returns-clause-facts
returns-clause-facts c =
    let number = next_is _ _ c.args.line c.args.action c.args.branch c.index.result.now c.index-2.result.now c.of-single.result c.next_number-number.result
    c.self.view_is c.requires.known c.requires.planned c.index.ensures c.index-2.ensures c.of-single.ensures c.next_number-number.ensures in
    row_written (sent_row _ c.args.action c.args.attempt) _ _ c.args.line c.index_mut.result.now c.send.new.self c.self.view_is c.requires.known c.index_mut.ensures.value
    (c.send.ensures ∙ ap (λ n. sent_row n c.args.action c.args.attempt c.index_mut.result.now) number)
