use Rattle.core_tables.proofs.Kept.{follows}
use Rattle.core_tables.proofs.file_laws.entries_are_kept.Goals as goal

pub returns : goal.returns
returns c = λ p f g j lane x r st open_yet h. follows p f g j lane st x r open_yet h
