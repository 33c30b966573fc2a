use Rattle.std.proofs.Common.{◌≡◌, rules, subst, sym}
use Rattle.spawn_strategies.specs.Chosen.{IsChoice, chosen, names_for}
use Rattle.spawn_strategies.proofs.Firsts.{choice_is}
use Rattle.spawn_strategies.proofs.choosing.chosen.Goals as goal

pub returns-in_ok-can_work-in-Some-clause-first :
    goal.returns-in_ok-can_work-in-Some-clause-first
returns-in_ok-can_work-in-Some-clause-first c =
    let x = c.args.action.now in
    let names = names_for c.args.words.now x.mnemonic in
    let is : c.first_supporting.result ≡ chosen c.args.words.now x = search rules in
    subst (IsChoice x names) (sym is) (choice_is x names)
