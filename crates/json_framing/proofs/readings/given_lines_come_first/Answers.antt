use Rattle.json_framing.proofs.Laws.{given_first}
use Rattle.json_framing.proofs.readings.given_lines_come_first.Goals as goal

pub returns : goal.returns
returns c = given_first
