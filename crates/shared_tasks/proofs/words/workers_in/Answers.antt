use Rattle.std.specs.Prelude.{codes}
use Rattle.tool_words.specs.Words.{behind}
use Rattle.tool_words.proofs.Limits.{in_option}
use Rattle.shared_tasks.proofs.words.workers_in.Goals as goal

pub returns-clause-few : goal.returns-clause-few
returns-clause-few c =
    rw c.number_behind.ensures (in_option 1 24 (behind (codes "--max_workers=") c.args.word.now))
