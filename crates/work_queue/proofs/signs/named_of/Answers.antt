use Rattle.work_queue.proofs.Naming.{names_both}
use Rattle.work_queue.proofs.signs.named_of.Goals as goal

pub returns : goal.returns
returns c = names_both c.args.waiting c.args.depth c.args.resting _ _ c.reader_of.ensures c.hand_of.ensures
