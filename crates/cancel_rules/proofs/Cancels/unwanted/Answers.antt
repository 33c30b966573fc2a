use Rattle.cancel_rules.proofs.Marked.{mark_written}
use Rattle.cancel_rules.proofs.Cancels.unwanted.Goals as goal

pub returns : goal.returns
returns c = mark_written _ _ c.args.action c.self.view_is c.requires
