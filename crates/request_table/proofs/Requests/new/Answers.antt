use Rattle.request_table.proofs.Told.{new_stands}
use Rattle.request_table.proofs.Requests.new.Goals as goal

pub returns-clause-stands : goal.returns-clause-stands
returns-clause-stands c = new_stands c.args.plan.now _ _ _ c.in_ok-room.ensures.room c.in_ok-new_lines.ensures c.in_ok-plan_singles.ensures
