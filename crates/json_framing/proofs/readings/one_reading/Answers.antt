use Rattle.json_framing.proofs.Laws.{only_reading}
use Rattle.json_framing.proofs.readings.one_reading.Goals as goal

pub returns : goal.returns
returns c = only_reading
