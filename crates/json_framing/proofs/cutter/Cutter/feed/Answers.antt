use Rattle.json_framing.proofs.cutter.Cutter.feed.Goals as goal

pub returns-in-Lines-clause-ok : goal.returns-in-Lines-clause-ok
returns-in-Lines-clause-ok c = rw c.in-Lines.is c.feed-in-Lines.ensures.ok
