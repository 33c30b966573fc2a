use Rattle.std.proofs.Common.{refl}
use Rattle.job_lanes.proofs.Greeted.{greeted, not_greeted}
use Rattle.job_lanes.proofs.pool.pool_jobs.Goals as goal

pub returns-in-Done : goal.returns-in-Done
returns-in-Done g c =
    let e = c.in-Done.ensures in
    let r = c.do_jobs.result in
    greeted g.S.Shop.told r.finish (g.T.Tap.told c.args.streams.tap) (g.T.Tap.told r.tap)
    (g.O.Sink.told c.args.streams.sink) (g.O.Sink.told c.put.new.self) (g.O.Sink.told r.sink)
    c.args.lanes.items r.handlers.items (record { given = e.put; count = e.count.later })
    c.do_jobs.ensures

pub returns-in-Failed : goal.returns-in-Failed
returns-in-Failed g c =
    let e = c.in-Failed.ensures in
    not_greeted g.S.Shop.told (g.T.Tap.told c.args.streams.tap)
    (g.O.Sink.told c.args.streams.sink) (g.O.Sink.told c.put.new.self) c.args.lanes.items e.put
    (e.count.rose refl)
