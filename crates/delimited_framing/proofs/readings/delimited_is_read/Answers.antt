use Rattle.delimited_framing.proofs.Laws.{delimited_read}
use Rattle.delimited_framing.proofs.readings.delimited_is_read.Goals as goal

pub returns : goal.returns
returns c = delimited_read
