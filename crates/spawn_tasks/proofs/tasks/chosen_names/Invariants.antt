use Rattle.std.proofs.Common.{◌≡◌, take}
use Rattle.spawn_strategies.specs.Choices.{chosen_names}
use Rattle.spawn_tasks.proofs.tasks.chosen_names.Given as goal

abbrev pub invariant-loop-action : goal.invariant-loop-action
invariant-loop-action l = l.names.items ≡ chosen_names l.words (take l.action-index l.actions)
