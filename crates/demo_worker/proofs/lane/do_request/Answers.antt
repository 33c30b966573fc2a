use Rattle.demo_worker.proofs.Handling.{handled, done, broken}
use Rattle.demo_worker.proofs.lane.do_request.Goals as goal

pub returns-clause-handled : goal.returns-clause-handled
returns-clause-handled g c = handled c.args.request.now c.make_of.result _ _ c.make_of.ensures

pub returns-clause-done : goal.returns-clause-done
returns-clause-done g c = done c.args.request.now c.make_of.result _ _ c.make_of.ensures

pub returns-clause-broken : goal.returns-clause-broken
returns-clause-broken g c = broken c.args.request.now c.make_of.result _ _ c.make_of.ensures
