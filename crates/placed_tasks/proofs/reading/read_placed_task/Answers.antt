use Rattle.std.proofs.Common.{map, string_bytes}
use Rattle.placed_tasks.specs.Words.{run_options_of}
use Rattle.placed_tasks.proofs.Told.{words_refused}
use Rattle.placed_tasks.proofs.reading.read_placed_task.Goals as goal

pub returns-in-None-clause-course : goal.returns-in-None-clause-course
returns-in-None-clause-course g c =
    let words = c.in_ok-options.ensures.words in
    let none = c.in-None.is in
    words_refused (run_options_of (map string_bytes c.args.words.now))
    (g.F.Floor.told c.args.floor.now) (cc)
