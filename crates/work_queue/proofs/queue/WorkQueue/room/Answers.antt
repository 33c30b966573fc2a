use Rattle.std.proofs.Common.{◌<◌, length, arith}
use Rattle.work_queue.proofs.Turning.{turn_room}
use Rattle.work_queue.proofs.queue.WorkQueue.room.Goals as goal

pub returns-then-len-depth-clause-turns : goal.returns-then-len-depth-clause-turns
returns-then-len-depth-clause-turns g c =
    let items = c.args.self.now.rows.waiting.items in
    let few : length items < c.args.depth = omega (arith, c.if-len-depth.true, c.len.ensures) in
    turn_room g.K.Kind.number g.K.Kind.cancels g.K.Kind.says g.K.Kind.written g.O.Sink.told
    c.args.self.now c.args.lane c.args.depth c.args.put few c.args.call.now c.requires
