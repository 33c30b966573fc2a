use Rattle.request_table.proofs.Kept.{faults_kept}
use Rattle.request_table.proofs.laws.faults_are_kept.Goals as goal

pub returns : goal.returns
returns c = λ p f j lane l n how q st ordered fault first known. faults_kept j lane l n how p f q ordered fault first st known
