use Rattle.cancel_rules.proofs.Followed.{faults_kept}
use Rattle.cancel_rules.proofs.laws.faults_are_kept.Goals as goal

pub returns : goal.returns
returns c = λ p f j lane l n how q st ordered fault first known. faults_kept p f j lane l n how st q ordered fault first known
