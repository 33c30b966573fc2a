use Rattle.std.proofs.Common.{◌≡◌, map, take}
use Rattle.spawn_strategies.specs.Choices.{name_in}
use Rattle.spawn_strategies.proofs.copies.names_in.Given as goal

abbrev pub invariant-loop-choice : goal.invariant-loop-choice
invariant-loop-choice l = l.names.items ≡ map name_in (take l.choice-index l.choices)
