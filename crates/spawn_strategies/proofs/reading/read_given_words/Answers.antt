use Rattle.std.proofs.Common.{◌≡◌, IfSome, Some, map, rules, subst, sym}
use Rattle.std.specs.Prelude.{string_bytes}
use Rattle.spawn_strategies.specs.SpawnOptions.{AreGiven, given_options}
use Rattle.spawn_strategies.proofs.SpawnLimits.{given_limits}
use Rattle.spawn_strategies.proofs.reading.read_given_words.Goals as goal

pub returns-in_ok-spawn_given-in-Some-clause-limits :
    goal.returns-in_ok-spawn_given-in-Some-clause-limits
returns-in_ok-spawn_given-in-Some-clause-limits c =
    let words = map string_bytes c.args.words.now in
    let is : Some c.in_ok-spawn_given-in-Some.field-0 ≡ given_options words = search rules in
    subst (λ o. IfSome o AreGiven) (sym is) (given_limits words)
