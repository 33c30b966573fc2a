use Rattle.std.proofs.Common.{rules, refl}
use Rattle.retry_rules.proofs.Counted.{new_stands}
use Rattle.retry_rules.proofs.Attempts.new.Goals as goal

pub returns-clause-stands : goal.returns-clause-stands
returns-clause-stands c = new_stands c.args.plan.now _ _ refl (search rules)
