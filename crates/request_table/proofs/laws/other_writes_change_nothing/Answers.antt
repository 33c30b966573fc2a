use Rattle.request_table.proofs.Kept.{done_kept, past_kept}
use Rattle.request_table.proofs.laws.other_writes_change_nothing.Goals as goal

pub returns-clause-written : goal.returns-clause-written
returns-clause-written c = λ p f j lane l n how st done. done_kept j lane l n how p f st done

pub returns-clause-past : goal.returns-clause-past
returns-clause-past c = λ p f j lane l n how st past. past_kept j lane l n how p f st past
