use Rattle.std.proofs.Common.{rules}
use Rattle.list_actions.specs.Producers.{producer_of}
use Rattle.run_loading.specs.Sources.{held}
use Rattle.run_loading.proofs.Made.{input_there}
use Rattle.run_loading.proofs.works.inputs_of.Goals as goal

pub origin_of-requires : goal.origin_of-requires
origin_of-requires c =
    input_there (producer_of c.args.producers.now) (held c.args.sources.now) c.args.action.now c.loop-path.path-index c.path-item.result c.as_str-in-loop-path.result.now (search rules) (search rules) (search rules) c.requires
