-- The run by the front of strategies keeps what its record says.
use Rattle.std.proofs.Common.{map, string_bytes}
use Rattle.placed_runs.proofs.StrategicNamed.{spawn_keeps}
use Rattle.placed_runs.proofs.spawn_front.run_strategies.Goals as goal

pub returns-clause-run : goal.returns-clause-run
returns-clause-run g c = spawn_keeps (map string_bytes c.args.words.now) (g.F.Floor.told c.args.floor)
    c.run.result.ended g.W.Pacer.told c.args.pacer c.run.result.pacer c.run.result.refused
    c.run.ensures.run
