use Rattle.std.proofs.Common.{◌∙◌}
use Rattle.desk_machines.proofs.Exchanged.{all_may, all_end}
use Rattle.desk_machines.proofs.exchanging.exchange.Goals as goal

pub run_crew-requires-clause-may_run : goal.run_crew-requires-clause-may_run
run_crew-requires-clause-may_run g c κs within = all_may _ _ c.args.count 0 c.in_ok-lanes.lanes.items c.in_ok-lanes.ensures.numbered

pub returns-in-Ok-clause-ends : goal.returns-in-Ok-clause-ends
returns-in-Ok-clause-ends g c = (all_end _ _ c.args.count c.in-Ok.crew.history.items 0 c.in_ok-lanes.lanes.items c.in-Ok.crew.ends.items c.in_ok-lanes.ensures.numbered c.in-Ok.ensures.lanes).0

pub returns-in-Ok-clause-all : goal.returns-in-Ok-clause-all
returns-in-Ok-clause-all g c =
    (all_end _ _ c.args.count c.in-Ok.crew.history.items 0 c.in_ok-lanes.lanes.items c.in-Ok.crew.ends.items c.in_ok-lanes.ensures.numbered c.in-Ok.ensures.lanes).1
    ∙ c.in_ok-lanes.ensures.count
