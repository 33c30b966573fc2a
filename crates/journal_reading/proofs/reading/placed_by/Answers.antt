use Rattle.std.proofs.Common.{arith}
use Rattle.journal_text.specs.Placed.{placed_in}
use Rattle.journal_reading.specs.Pulls.{if_over, pull}
use Rattle.journal_reading.proofs.Passing.{misread_by, passed_on}
use Rattle.journal_reading.proofs.Whole.{longer_text, no_text, whole_text}
use Rattle.journal_reading.proofs.reading.placed_by.Goals as goal

pub returns-in_err-placed : goal.returns-in_err-placed
returns-in_err-placed c =
    passed_on _ _ c.in_err-placed.field-0.0 _ c.from_residual-in_err-placed.ensures (misread_by _ (pull placed_in 127 c.in_ok-reader.reader) _ (c.in_err-placed.ensures 127 (omega arith))
    (λ none. no_text placed_in c.args.text.now _ c.in_ok-reader.ensures.ok none))

pub returns-in_err-no_more : goal.returns-in_err-no_more
returns-in_err-no_more c =
    passed_on _ _ c.in_err-no_more.field-0.0 _ c.from_residual-in_err-no_more.ensures (misread_by _ (if_over c.next_placed.new.reader) _ c.in_err-no_more.ensures
    (λ none. longer_text placed_in c.args.text.now _ _ _ c.in_ok-reader.ensures.ok (c.in_ok-placed.ensures 127 (omega arith)) none))

pub returns : goal.returns
returns c = whole_text placed_in c.args.text.now _ _ _ c.in_ok-reader.ensures.ok (c.in_ok-placed.ensures 127 (omega arith)) c.in_ok-no_more.ensures
