use Rattle.journal_laws.proofs.Requests.{paired}
use Rattle.journal_laws.proofs.laws.answers_are_paired.Goals as goal

pub returns : goal.returns
returns c = λ p j h. paired p j h
