use Rattle.std.proofs.Common.{◌≡◌, [], drop, map, take}
use Rattle.action_list.specs.Keys.{keys_among}
use Rattle.action_list.specs.Plans.{number_of}
use Rattle.action_list.proofs.keys.number_all.Given as goal

abbrev pub invariant-loop-key : goal.invariant-loop-key
invariant-loop-key l = record {
  same : l.keys.items ≡ l.table;
  found : keys_among [] l.held ≡ keys_among l.table (drop l.key-index l.held);
  numbered : l.numbers.items ≡ map (number_of (keys_among [] l.held)) (take l.key-index l.held);
}
