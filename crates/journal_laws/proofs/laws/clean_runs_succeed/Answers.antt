use Rattle.journal_laws.proofs.Cleaned.{complete}
use Rattle.journal_laws.proofs.laws.clean_runs_succeed.Goals as goal

pub returns : goal.returns
returns c = λ p j lane d sound legal clean none stop a x at. complete p j lane d sound legal clean none stop a x at
