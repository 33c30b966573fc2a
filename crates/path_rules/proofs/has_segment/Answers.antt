use Rattle.std.proofs.Common.{rules, tests, lit<}
use Rattle.std.proofs.lemmas.Iterator.Splits.{YieldsList-from_str_split}
use Rattle.std.proofs.lemmas.Iterator.Search.{any_from_yields_List}
use Rattle.std.specs.Str.{bytes_eq}
use Rattle.path_rules.proofs.has_segment.Goals as goal

pub returns : goal.returns
returns c =
    let parts = YieldsList-from_str_split 47 c.args.path.now (lit< tt) c.split.ensures.text c.split.ensures.has_more c.split.ensures.pattern in
    any_from_yields_List (λ s. bytes_eq s c.args.segment.now) _ _ c.any.result c.any.ensures.ran parts (λ x b q k. search (rules, tests))
