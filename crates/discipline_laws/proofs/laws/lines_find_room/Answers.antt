use Rattle.discipline_laws.proofs.Ordering as ordering
use Rattle.discipline_laws.proofs.laws.lines_find_room.Goals as goal

pub returns : goal.returns
returns c = ordering.lines_find_room
