use Rattle.std.proofs.Common.{rules}
use Rattle.race_core.proofs.Kept.{new_stands}
use Rattle.race_core.proofs.Race.new.Goals as goal

pub returns-clause-stands : goal.returns-clause-stands
returns-clause-stands c = new_stands c.args.plan.now _ (search rules)
