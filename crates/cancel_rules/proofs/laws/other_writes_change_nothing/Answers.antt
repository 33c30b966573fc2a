use Rattle.cancel_rules.proofs.Followed.{done_kept, past_kept}
use Rattle.cancel_rules.proofs.laws.other_writes_change_nothing.Goals as goal

pub returns-clause-written : goal.returns-clause-written
returns-clause-written c = λ p f j lane l n how st done. done_kept p f j lane l n how st done

pub returns-clause-past : goal.returns-clause-past
returns-clause-past c = λ p f j lane l n how st past. past_kept p f j lane l n how st past
