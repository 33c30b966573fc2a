use Rattle.std.proofs.Common.{◌≡◌, map, take}
use Rattle.action_list.specs.Keys.{unread_tool}
use Rattle.action_list.proofs.keys.unread_tools.Given as goal

abbrev pub invariant-loop-path : goal.invariant-loop-path
invariant-loop-path l = l.named.items ≡ map unread_tool (take l.path-index l.paths)
