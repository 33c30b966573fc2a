use Rattle.discipline_laws.proofs.Ordering.{takes_there, takes_once}
use Rattle.discipline_laws.proofs.laws.taps_are_given_once.Goals as goal

pub returns : goal.returns
returns c = record { there = takes_there; once = takes_once }
