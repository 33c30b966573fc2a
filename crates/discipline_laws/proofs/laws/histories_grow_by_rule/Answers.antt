use Rattle.discipline_laws.proofs.Growing.{legal_before}
use Rattle.discipline_laws.proofs.laws.histories_grow_by_rule.Goals as goal

pub returns : goal.returns
returns c = λ q is h e came. legal_before q h e came
