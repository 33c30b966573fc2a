use Rattle.core_laws.proofs.AllOf.{all_of}
use Rattle.earliest_first.proofs.First.{first_is}
use Rattle.earliest_first.proofs.laws.first_choices_are_the_rules.Goals as goal

pub returns : goal.returns
returns c = λ p seats s j lane seat next more st may lt fits nexts.
    first_is p seats s j lane st (all_of p seats s j st).facts may lt seat next more fits nexts
