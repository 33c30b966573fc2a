use Rattle.std.proofs.Common.{◌≡◌, map, take}
use Rattle.list_actions.specs.Producers.{producer_of}
use Rattle.run_loading.specs.Sources.{held}
use Rattle.run_loading.specs.Works.{work_input}
use Rattle.run_loading.proofs.works.inputs_of.Given as goal

abbrev pub invariant-loop-path : goal.invariant-loop-path
invariant-loop-path l = l.inputs.items ≡ map (work_input (producer_of l.producers) (held l.sources)) (take l.path-index l.path-items)
