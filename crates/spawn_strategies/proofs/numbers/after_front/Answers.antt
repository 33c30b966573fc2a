use Rattle.tool_words.proofs.Fronts.{stripped}
use Rattle.spawn_strategies.proofs.numbers.after_front.Goals as goal

pub returns : goal.returns
returns c = stripped c.args.front.now c.args.word.now c.strip_prefix.result c.strip_prefix.ensures.cases
