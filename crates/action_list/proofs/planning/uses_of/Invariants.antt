use Rattle.std.proofs.Common.{◌≡◌, take}
use Rattle.action_list.specs.Uses.{uses_of}
use Rattle.action_list.proofs.planning.uses_of.Given as goal

abbrev pub invariant-loop-number : goal.invariant-loop-number
invariant-loop-number l = record {
  counted : l.index ≡ l.number-index;
  used : l.uses.items ≡ uses_of l.count (take l.number-index l.numbers);
}
