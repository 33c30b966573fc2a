use Rattle.std.proofs.Common.{◌≡◌, map, take}
use Rattle.spawn_strategies.specs.Chosen.{chosen}
use Rattle.spawn_strategies.proofs.copies.all_chosen.Given as goal

abbrev pub invariant-loop-action : goal.invariant-loop-action
invariant-loop-action l = l.choices.items ≡ map (chosen l.words) (take l.action-index l.actions)
