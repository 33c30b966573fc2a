use Rattle.std.proofs.Common.{◌∙◌}
use Rattle.run_loading.proofs.Found.{file_found}
use Rattle.run_loading.proofs.sources.Sources.get.Goals as goal

pub returns : goal.returns
returns c = c.get.ensures.value ∙ file_found c.args.self.now.files.entries c.args.path.now
