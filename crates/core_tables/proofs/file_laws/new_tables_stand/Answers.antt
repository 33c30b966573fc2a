use Rattle.core_tables.proofs.Kept.{new_stands}
use Rattle.core_tables.proofs.file_laws.new_tables_stand.Goals as goal

pub returns : goal.returns
returns c = λ p f new. new_stands p f new
