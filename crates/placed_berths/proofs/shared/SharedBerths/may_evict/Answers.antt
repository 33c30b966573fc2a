use Rattle.placed_berths.proofs.shared.SharedBerths.may_evict.Goals as goal

pub may_go-requires-clause-reads : goal.may_go-requires-clause-reads
may_go-requires-clause-reads c = c.requires.shared.pools.berths.each c.args.berth c.requires.berth
