use Rattle.std.proofs.Common.{rules}
use Rattle.run_loading.proofs.Made.{files_more}
use Rattle.run_loading.proofs.works.source_files.Goals as goal

pub loop-input-preserved : goal.loop-input-preserved
loop-input-preserved c = files_more c.args.inputs.now c.loop-input.input-index c.input-item.result c.loop-input.files.items c.push_source.new.files.items (search rules) c.input-item.is c.loop-input.invariant c.in_ok-push_source.ensures
