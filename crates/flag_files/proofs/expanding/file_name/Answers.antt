use Rattle.std.proofs.Common.{sym, ◌∙◌}
use Rattle.std.proofs.lemmas.Str.{IsCharBoundary-after_ascii}
use Rattle.flag_files.proofs.Names.{at_sign}
use Rattle.flag_files.proofs.expanding.file_name.Goals as goal

pub range_from-requires : goal.range_from-requires
range_from-requires c =
    let begins = at_sign c.args.word.now (sym c.names_file.ensures ∙ c.if-names_file.true) in
    λ _. IsCharBoundary-after_ascii c.args.word.now 0 c.utf8.word begins.0 begins.1
