use Rattle.core_laws.proofs.AllOf.{all_of}
use Rattle.core_laws.proofs.Calls.{call_is_told, call_stands}
use Rattle.core_laws.proofs.laws.calls_are_kept.Goals as goal

pub returns-clause-told : goal.returns-clause-told
returns-clause-told c = λ p seats s j lane seat x st fits h may.
    call_is_told p seats s j lane seat x st (all_of p seats s j st) fits h may

pub returns-clause-stands : goal.returns-clause-stands
returns-clause-stands c = λ p seats s j lane seat x st fits h may kept.
    call_stands p seats s j lane seat x st (all_of p seats s j st) fits h may kept
