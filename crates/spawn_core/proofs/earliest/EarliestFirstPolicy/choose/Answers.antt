use Rattle.spawn_core.proofs.earliest.EarliestFirstPolicy.choose.Goals as goal

pub choose-requires : goal.choose-requires
choose-requires c = c.requires.reads.each c.args.berth c.requires.berth
