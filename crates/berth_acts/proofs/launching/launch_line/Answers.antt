use Rattle.berth_acts.proofs.Steps.{launch_then}
use Rattle.berth_acts.proofs.launching.launch_line.Goals as goal

pub returns-in-Done-clause-calls : goal.returns-in-Done-clause-calls
returns-in-Done-clause-calls g c =
    let told = g.B.Berth.told in
    let e = c.in-Done.ensures in
    launch_then c.args.line c.args.command.now c.start.result (told c.args.berth.now) (told c.room_clear.new.self) (told c.start.new.berth) e.log e.count e.number c.start.ensures.calls
