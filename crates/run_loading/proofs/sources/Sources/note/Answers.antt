use Rattle.run_loading.proofs.Found.{file_noted}
use Rattle.run_loading.proofs.sources.Sources.note.Goals as goal

pub returns : goal.returns
returns c =
    file_noted c.args.self.now.files c.insert.new.self c.in_ok-from_str.field-0 c.args.path.now c.args.bytes
    c.in_ok-from_str.ensures.ok c.requires c.in_ok-insert.ensures.entries
