use Rattle.std.proofs.Common.{◌≡◌, take}
use Rattle.spawn_strategies.specs.Choices.{all_placed}
use Rattle.spawn_strategies.proofs.placing.place_all.Given as goal

-- those so far are placed
abbrev pub invariant-loop-number : goal.invariant-loop-number
invariant-loop-number l =
    l.actions ≡ all_placed l.sandbox l.executor (take l.number l.names) l.initial.actions
