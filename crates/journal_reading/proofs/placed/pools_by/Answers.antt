use Rattle.json.specs.Json.{after_end_array}
use Rattle.std.proofs.Common.{◌∙◌, arith}
use Rattle.journal_text.specs.Placed.{pool_in}
use Rattle.journal_text.specs.Values.{count_in, list_in}
use Rattle.journal_reading.specs.Pulls.{pull}
use Rattle.journal_reading.proofs.Passing.{misread_by, passed_on}
use Rattle.journal_reading.proofs.Steps.{not_over, over, step, stop}
use Rattle.journal_reading.proofs.placed.pools_by.Goals as goal

pub returns-in_err-pools : goal.returns-in_err-pools
returns-in_err-pools c = λ d deep.
    passed_on _ _ c.in_err-pools.field-0.0 _ c.from_residual.ensures (misread_by _ (pull (list_in pool_in) d c.args.reader.now) _ (c.in_err-pools.ensures d (omega arith))
    (λ none. stop _ _ d _ none))

pub returns-in_err-instances : goal.returns-in_err-instances
returns-in_err-instances c = λ d deep.
    passed_on _ _ c.in_err-instances.field-0.0 _ c.from_residual-in_err-instances.ensures (misread_by _ (pull count_in d c.next_pools.new.reader) _ (c.in_err-instances.ensures d (omega arith))
    (λ none. step _ _ d _ _ _ (c.in_ok-pools.ensures d (omega arith)) ∙ stop _ _ d _ none))

pub returns-in_err-end : goal.returns-in_err-end
returns-in_err-end c = λ d deep.
    passed_on _ _ c.in_err-end.field-0.0 _ c.from_residual-in_err-end.ensures (misread_by _ (after_end_array c.next_count.new.reader) _ c.in_err-end.ensures
    (λ none. step _ _ d _ _ _ (c.in_ok-pools.ensures d (omega arith)) ∙ step _ _ d _ _ _ (c.in_ok-instances.ensures d (omega arith)) ∙ not_over _ d _ none))

pub returns : goal.returns
returns c = λ d deep.
    step _ _ d _ _ _ (c.in_ok-pools.ensures d (omega arith))
    ∙ step _ _ d _ _ _ (c.in_ok-instances.ensures d (omega arith))
    ∙ over _ d _ _ c.in_ok-end.ensures
