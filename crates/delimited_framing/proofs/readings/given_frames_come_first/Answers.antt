use Rattle.delimited_framing.proofs.Laws.{given_first}
use Rattle.delimited_framing.proofs.readings.given_frames_come_first.Goals as goal

pub returns : goal.returns
returns c = given_first
