use Rattle.std.proofs.Common.{[], ◌∷◌}
use Rattle.std.proofs.lemmas.Str.Pattern.{contains_text}
use Rattle.flag_files.proofs.Names.{double_slash}
use Rattle.flag_files.proofs.expanding.has_double_slash.Goals as goal

pub returns : goal.returns
returns c = double_slash c.args.word.now c.contains.result (contains_text c.contains.result (47 ∷ 47 ∷ []) c.args.word.now c.contains.ensures.cases)
