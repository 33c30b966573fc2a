use Rattle.wire_messages.proofs.Ways.{request_way}
use Rattle.wire_messages.proofs.readings.requests_are_read_one_way.Goals as goal

pub returns : goal.returns
returns c = request_way
