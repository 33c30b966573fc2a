use Rattle.std.proofs.Common.{◌≡◌, drop}
use Rattle.outside.specs.Floor.{file_at}
use Rattle.flag_files.proofs.expanding.find.Given as goal

abbrev pub invariant-loop-file : goal.invariant-loop-file
invariant-loop-file l = file_at l.files l.path ≡ file_at (drop l.file-index l.files) l.path
