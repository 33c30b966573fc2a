use Rattle.std.proofs.Common.{◌≡◌, take}
use Rattle.run_loading.specs.Works.{source_files}
use Rattle.run_loading.proofs.works.source_files.Given as goal

abbrev pub invariant-loop-input : goal.invariant-loop-input
invariant-loop-input l = l.files.items ≡ source_files (take l.input-index l.inputs)
