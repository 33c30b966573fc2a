use Rattle.std.proofs.Common.{◌≡◌, ◌<◌, length, Some, None, ap, arith, subst, sym, ◌∙◌}
use Rattle.json.specs.Json.{after_end_array}
use Rattle.journal_text.specs.Values.{count_in}
use Rattle.journal_reading.specs.Pulls.{pull}
use Rattle.journal_reading.proofs.Passing.{misread_by, passed_on}
use Rattle.journal_reading.proofs.Steps.{each_more, each_over, each_refused, pull-shorter}
use Rattle.journal_reading.proofs.placed.each_count.Goals as goal

pub returns-in_err-count : goal.returns-in_err-count
returns-in_err-count c = λ d deep.
    let going : (after_end_array c.row.reader ≡ None) × (c.take_end_array.new.self ≡ c.row.reader) = grind arith in
    passed_on _ _ c.in_err-count.field-0.0 _ c.from_residual.ensures (misread_by _ (pull count_in d c.take_end_array.new.self) _ (c.in_err-count.ensures d deep)
    (λ none. each_refused count_in d c.row.reader _ c.row.counts.items (c.row.invariant d deep) going.0 (subst (λ ts. pull count_in d ts ≡ None) going.1 none)))

pub row-smaller : goal.row-smaller
row-smaller c =
    let going : (after_end_array c.row.reader ≡ None) × (c.take_end_array.new.self ≡ c.row.reader) = grind arith in
    let same = ap length going.1 in
    let less : length c.next_count.new.reader < length c.take_end_array.new.self = pull-shorter count_in 0 _ _ _ (c.in_ok-count.ensures 0 (omega arith)) in
    omega arith

pub row-preserved : goal.row-preserved
row-preserved c = λ d deep.
    let going : (after_end_array c.row.reader ≡ None) × (c.take_end_array.new.self ≡ c.row.reader) = grind arith in
    each_more count_in d c.row.reader c.next_count.new.reader c.in_ok-count.count _ c.row.counts.items c.push.new.self.items (c.row.invariant d deep)
    (subst (λ ts. pull count_in d ts ≡ Some (c.in_ok-count.count, c.next_count.new.reader)) going.1 (c.in_ok-count.ensures d deep)) c.in_ok-push.ensures.items

pub returns : goal.returns
returns c = λ d deep.
    let ended : after_end_array c.row.reader ≡ Some c.take_end_array.new.self = grind arith in
    each_over count_in d c.row.reader c.take_end_array.new.self _ c.row.counts.items (c.row.invariant d deep) ended
    ∙ ap (λ xs. Some (xs, c.take_end_array.new.self)) (sym c.of.ensures)
