use Rattle.std.proofs.Common.{◌≡◌, Some, map, string_bytes, subst}
use Rattle.spawn_strategies.specs.SpawnOptions.{spawn_options_of}
use Rattle.spawn_tasks.specs.Course.{SpawnCourse, SpawnLeads}
use Rattle.spawn_tasks.proofs.Told.{words_refused}
use Rattle.spawn_tasks.proofs.reading.read_spawn_task.Goals as goal

pub returns-in-Some-clause-course : goal.returns-in-Some-clause-course
returns-in-Some-clause-course g c =
    let words = c.in_ok-options.ensures.words in
    let some = c.in-Some.is in
    subst (λ o. SpawnLeads (g.F.Floor.told c.args.floor.now)
    (g.F.Floor.told c.read_by_options.new.floor) c.read_by_options.result (SpawnCourse o))
    (let e : Some c.in-Some.options ≡ spawn_options_of (map string_bytes c.args.words.now) = cc
    in e)
    c.read_by_options.ensures.course

pub returns-in-None-clause-course : goal.returns-in-None-clause-course
returns-in-None-clause-course g c =
    let words = c.in_ok-options.ensures.words in
    let none = c.in-None.is in
    words_refused (spawn_options_of (map string_bytes c.args.words.now))
    (g.F.Floor.told c.args.floor.now) (cc)
