use Rattle.std.proofs.Common.{IfSome, map, subst, sym}
use Rattle.std.specs.Prelude.{string_bytes}
use Rattle.shared_tasks.specs.Words.{IsWithin}
use Rattle.spawn_strategies.specs.SpawnOptions.{AreGiven}
use Rattle.tool_words.specs.Options.{first_of}
use Rattle.placed_tasks.specs.Words.{AreRunOptions}
use Rattle.placed_tasks.proofs.Limits.{when_fitting, within}
use Rattle.placed_tasks.proofs.words.read_run_words.Goals as goal

pub returns-in-Some-clause-limits : goal.returns-in-Some-clause-limits
returns-in-Some-clause-limits c =
    let given = subst (λ o. IfSome o AreGiven) c.in-Some.is c.in_ok-given.ensures.limits in
    let few = subst (λ l. IfSome (first_of l) (IsWithin 1 24)) (sym c.in_ok-workers.ensures)
    (within (map string_bytes c.args.words.now)) in
    subst (λ o. IfSome o AreRunOptions) (sym c.if_fitting.ensures)
    (when_fitting c.in_ok-workers.workers c.in-Some.given given few)
