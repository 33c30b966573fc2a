use Rattle.discipline_laws.proofs.Granting.{grants_once, commits_own}
use Rattle.discipline_laws.proofs.laws.files_are_granted_once.Goals as goal

pub returns : goal.returns
returns c = record { grants = grants_once; commits = commits_own }
