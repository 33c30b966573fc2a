use Rattle.std.proofs.Common.{◌≡◌, map, take}
use Rattle.worker_key.specs.Keys.{named_tool}
use Rattle.worker_key.proofs.making.tools_named.Given as goal

abbrev pub invariant-loop-tool : goal.invariant-loop-tool
invariant-loop-tool l = l.named.items ≡ map named_tool (take l.tool-index l.tools)
