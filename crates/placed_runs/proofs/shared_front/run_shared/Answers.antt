-- The run by the front of shared berths is never refused, and keeps what its record says.
use Rattle.std.proofs.Common.{map, string_bytes}
use Rattle.placed_runs.proofs.SharedNamed.{shared_keeps}
use Rattle.tick_lane.specs.declared.pacer.EagerPacer.{EagerPacer}
use Rattle.placed_runs.proofs.shared_front.run_shared.Goals as goal

pub returns-clause-run : goal.returns-clause-run
returns-clause-run g c = shared_keeps (map string_bytes c.args.words.now) (g.F.Floor.told c.args.floor)
    c.run.result.ended (λ (p : EagerPacer). p.ticks) _ c.run.result.pacer c.run.result.refused
    c.run.ensures.run
