use Rattle.std.proofs.Common.{rules}
use Rattle.cancel_rules.proofs.Followed.{new_stands}
use Rattle.cancel_rules.proofs.Cancels.new.Goals as goal

pub returns-clause-stands : goal.returns-clause-stands
returns-clause-stands c = new_stands c.args.plan.now _ _ _ c.in_ok-room.ensures c.in_ok-new_lines.ensures (search rules)
