use Rattle.core_laws.proofs.AllOf.{all_of}
use Rattle.run_plan.specs.Groups.{berths}
use Rattle.earliest_first.proofs.Chosen.{choice_is}
use Rattle.earliest_first.proofs.laws.choices_are_the_rules.Goals as goal

pub returns : goal.returns
returns c = λ p s j lane st legal may.
    choice_is p s j lane st legal (all_of p (berths p) s j st).facts may
