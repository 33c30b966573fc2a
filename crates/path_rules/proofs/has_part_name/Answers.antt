use Rattle.std.proofs.Common.{rules, tests, lit<}
use Rattle.std.proofs.lemmas.Iterator.Splits.{YieldsList-from_str_split}
use Rattle.std.proofs.lemmas.Iterator.Search.{any_from_yields_List}
use Rattle.path_rules.specs.Paths.{is_part_name}
use Rattle.path_rules.proofs.has_part_name.Goals as goal

pub returns : goal.returns
returns c =
    let parts = YieldsList-from_str_split 47 c.args.path.now (lit< tt) c.split.ensures.text c.split.ensures.has_more c.split.ensures.pattern in
    any_from_yields_List is_part_name _ _ c.any.result c.any.ensures.ran parts (λ x b q k. search (rules, tests))
