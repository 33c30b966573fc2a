use Rattle.std.proofs.Common.{◌≡◌, map, take}
use Rattle.mem_children.specs.Obliging.{made_file}
use Rattle.mem_children.proofs.obliging.made_files.Given as goal

abbrev pub invariant-loop-output : goal.invariant-loop-output
invariant-loop-output l = l.files.items ≡ map made_file (take l.output-index l.outputs)
