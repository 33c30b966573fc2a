use Rattle.journal_laws.proofs.Decided.{legal_by, legal_computes}
use Rattle.journal_laws.proofs.laws.legal_is_decided.Goals as goal

pub returns : goal.returns
returns c = λ p j. (legal_by p j, legal_computes p j)
