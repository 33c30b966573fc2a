use Rattle.spawn_core.proofs.Histories.{goes_on}
use Rattle.spawn_core.proofs.scheduler.CoreRules.step.Goals as goal

pub returns-clause-stands : goal.returns-clause-stands
returns-clause-stands g c = goes_on g.P.Policy.discipline g.P.Policy.stands g.P.Policy.basis
    c.args.self.now c.step.new.self c.args.lane c.args.call.now
    c.step.result c.step.ensures.basis c.step.ensures.stands
