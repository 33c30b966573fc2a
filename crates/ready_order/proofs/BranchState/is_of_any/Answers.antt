use Rattle.ready_order.proofs.Among.{named_own}
use Rattle.ready_order.proofs.BranchState.is_of_any.Goals as goal

pub contains-requires : goal.contains-requires
contains-requires g c = c.requires c.in-Some.own (named_own c.in-Some.own c.args.self c.in-Some.is)
