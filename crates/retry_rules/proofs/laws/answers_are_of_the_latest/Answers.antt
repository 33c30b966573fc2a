use Rattle.std.proofs.Common.{◌∙◌, ap, arith}
use Rattle.retry_rules.specs.Counts.{after_attempt}
use Rattle.retry_rules.proofs.Counted.{count_is}
use Rattle.retry_rules.proofs.laws.answers_are_of_the_latest.Goals as goal

pub returns-clause-below : goal.returns-clause-below
returns-clause-below c = λ p f j a b s order least known h.
    let e = count_is p f j a b s known h in
    let le = order.limited a b least in
    let limit = s.limit in
    omega arith

pub returns-clause-answer : goal.returns-clause-answer
returns-clause-answer c = λ p f j a b s known h. ap (λ n. after_attempt n f.limit) (count_is p f j a b s known h) ∙ ap (after_attempt _) s.limit
