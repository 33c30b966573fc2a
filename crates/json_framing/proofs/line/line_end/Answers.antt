use Rattle.json_framing.proofs.Splitters.{no_feed_here, feed_here}
use Rattle.json_framing.proofs.line.line_end.Goals as goal

pub loop-at-preserved : goal.loop-at-preserved
loop-at-preserved c = no_feed_here c.args.held.now c.part-part.result.now c.args.from c.loop-at.at c.part-part.ensures c.loop-at.invariant.0 c.loop-at.invariant.1 c.in-None.ensures

pub returns-in-Some-clause-place : goal.returns-in-Some-clause-place
returns-in-Some-clause-place c = feed_here c.args.held.now c.part-part.result.now c.args.from c.loop-at.at c.in-Some.behind c.part-part.ensures c.loop-at.invariant.1 c.in-Some.ensures
