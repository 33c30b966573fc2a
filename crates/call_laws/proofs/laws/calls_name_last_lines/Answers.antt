use Rattle.call_laws.proofs.LastLines.{names_last}
use Rattle.call_laws.proofs.laws.calls_name_last_lines.Goals as goal

pub returns : goal.returns
returns c = names_last
