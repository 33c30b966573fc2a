use Rattle.call_laws.proofs.Owing.{asking_reported}
use Rattle.call_laws.proofs.LastLines.{launched_yet}
use Rattle.call_laws.proofs.laws.asking_lanes_have_reported.Goals as goal

pub returns : goal.returns
returns c = record { lines = asking_reported; here = launched_yet }
