use Rattle.ready_order.proofs.Followed.{committed}
use Rattle.ready_order.proofs.laws.commits_are_followed.Goals as goal

pub returns : goal.returns
returns c = λ p states j lane a b how s h. committed p j lane a b how h states s
