-- The run by the front of own berths is never refused, and keeps what its record says.
use Rattle.std.proofs.Common.{map, string_bytes}
use Rattle.tick_lane.specs.declared.pacer.EagerPacer.{EagerPacer}
use Rattle.worker_run.proofs.OwnRun.{own_keeps}
use Rattle.worker_run.proofs.build.run_build_watched.Goals as goal

pub returns-clause-run : goal.returns-clause-run
returns-clause-run g c = own_keeps (map string_bytes c.args.words.now) (g.F.Floor.told c.args.floor)
    c.run.result.ended (λ (p : EagerPacer). p.ticks) _ c.run.result.pacer c.run.result.refused
    c.run.ensures.run
