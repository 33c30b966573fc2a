use Rattle.std.proofs.Common.{◌≡◌, take}
use Rattle.run_tasks.specs.Setup.{commands_for}
use Rattle.run_tasks.proofs.setup.commands_of.Given as goal

abbrev pub invariant-loop-part : goal.invariant-loop-part
invariant-loop-part l = l.commands.items ≡ commands_for (take l.part-index l.parts)
