use Rattle.core_laws.proofs.AllOf.{all_of}
use Rattle.core_laws.proofs.Can.{can_make, can_carry}
use Rattle.core_laws.proofs.laws.calls_may_be_made.Goals as goal

pub returns-clause-calls : goal.returns-clause-calls
returns-clause-calls c = λ p seats s j lane seat x st may.
    can_make p seats s j lane seat x st (all_of p seats s j st) may

pub returns-clause-asks : goal.returns-clause-asks
returns-clause-asks c = λ p seats s j lane x st may is.
    can_carry p seats s j lane x st (all_of p seats s j st) may is
