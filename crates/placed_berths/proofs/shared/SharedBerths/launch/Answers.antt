use Rattle.std.proofs.Common.{arith}
use Rattle.placed_berths.proofs.shared.SharedBerths.launch.Goals as goal

pub holds-requires-clause-reads : goal.holds-requires-clause-reads
holds-requires-clause-reads c = c.requires.shared.pools.berths.each c.args.berth c.requires.berth

pub next_starved-requires-clause-reads : goal.next_starved-requires-clause-reads
next_starved-requires-clause-reads c =
    c.requires.shared.pools.berths.each c.args.berth c.requires.berth
