use Rattle.std.proofs.Common.{◌≡◌, ◌<◌, length, Some, None, ap, arith, subst, sym, ◌∙◌}
use Rattle.json.specs.Json.{after_end_array}
use Rattle.journal_text.specs.Placed.{pool_in}
use Rattle.journal_reading.specs.Pulls.{pull}
use Rattle.journal_reading.proofs.Passing.{misread_by, passed_on}
use Rattle.journal_reading.proofs.Steps.{each_more, each_over, each_refused, pull-shorter}
use Rattle.journal_reading.proofs.placed.each_pool.Goals as goal

pub returns-in_err-pool : goal.returns-in_err-pool
returns-in_err-pool c = λ d deep.
    let going : (after_end_array c.row.reader ≡ None) × (c.take_end_array.new.self ≡ c.row.reader) = grind arith in
    passed_on _ _ c.in_err-pool.field-0.0 _ c.from_residual.ensures (misread_by _ (pull pool_in d c.take_end_array.new.self) _ (c.in_err-pool.ensures d deep)
    (λ none. each_refused pool_in d c.row.reader _ c.row.pools.items (c.row.invariant d deep) going.0 (subst (λ ts. pull pool_in d ts ≡ None) going.1 none)))

pub row-smaller : goal.row-smaller
row-smaller c =
    let going : (after_end_array c.row.reader ≡ None) × (c.take_end_array.new.self ≡ c.row.reader) = grind arith in
    let same = ap length going.1 in
    let less : length c.next_pool.new.reader < length c.take_end_array.new.self = pull-shorter pool_in 2 _ _ _ (c.in_ok-pool.ensures 2 (omega arith)) in
    omega arith

pub row-preserved : goal.row-preserved
row-preserved c = λ d deep.
    let going : (after_end_array c.row.reader ≡ None) × (c.take_end_array.new.self ≡ c.row.reader) = grind arith in
    each_more pool_in d c.row.reader c.next_pool.new.reader c.in_ok-pool.pool _ c.row.pools.items c.push.new.self.items (c.row.invariant d deep)
    (subst (λ ts. pull pool_in d ts ≡ Some (c.in_ok-pool.pool, c.next_pool.new.reader)) going.1 (c.in_ok-pool.ensures d deep)) c.in_ok-push.ensures.items

pub returns : goal.returns
returns c = λ d deep.
    let ended : after_end_array c.row.reader ≡ Some c.take_end_array.new.self = grind arith in
    each_over pool_in d c.row.reader c.take_end_array.new.self _ c.row.pools.items (c.row.invariant d deep) ended
    ∙ ap (λ xs. Some (xs, c.take_end_array.new.self)) (sym c.of.ensures)
