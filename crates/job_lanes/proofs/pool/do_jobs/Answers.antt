use Rattle.job_lanes.proofs.Greeted.{none_done}
use Rattle.job_lanes.proofs.pool.do_jobs.Goals as goal

pub returns-in-Err : goal.returns-in-Err
returns-in-Err g c =
    let u = c.in-Err.unbegun in
    let back = c.in-Err.ensures.back in
    none_done g.S.Shop.told g.T.Tap.told g.O.Sink.told c.args.streams.tap u.streams.tap
    c.args.streams.sink u.streams.sink c.args.lanes.items u.handlers.items back.0 back.1 back.2
