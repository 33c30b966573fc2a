use Rattle.wire_messages.proofs.Ways.{response_way}
use Rattle.wire_messages.proofs.readings.responses_are_read_one_way.Goals as goal

pub returns : goal.returns
returns c = response_way
