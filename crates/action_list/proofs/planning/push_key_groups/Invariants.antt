use Rattle.std.proofs.Common.{◌≡◌, ◌++◌, map, drop}
use Rattle.action_list.specs.Uses.{used_group}
use Rattle.action_list.proofs.planning.push_key_groups.Given as goal

abbrev pub invariant-loop-one : goal.invariant-loop-one
invariant-loop-one l = l.groups.items ++ map (used_group l.actions l.each) (drop l.one-index l.uses) ≡ l.initial.groups.items ++ map (used_group l.actions l.each) l.uses
