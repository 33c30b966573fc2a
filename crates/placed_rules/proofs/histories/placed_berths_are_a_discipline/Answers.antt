use Rattle.std.proofs.Common.{refl}
use Rattle.placed_rules.proofs.Whole.{own_is_discipline, placed_is_discipline}
use Rattle.placed_rules.proofs.Usable.{usable_berths, usable_is, usable_is_discipline}
use Rattle.placed_rules.proofs.histories.placed_berths_are_a_discipline.Goals as goal

pub returns-clause-discipline : goal.returns-clause-discipline
returns-clause-discipline c = placed_is_discipline

pub returns-clause-own : goal.returns-clause-own
returns-clause-own c = own_is_discipline

pub returns-clause-plain : goal.returns-clause-plain
returns-clause-plain c = λ p. refl

pub returns-clause-usable : goal.returns-clause-usable
returns-clause-usable c = usable_is_discipline

pub returns-clause-seats : goal.returns-clause-seats
returns-clause-seats c = usable_berths

pub returns-clause-sound : goal.returns-clause-sound
returns-clause-sound c = usable_is
