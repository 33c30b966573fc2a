use Rattle.cancel_rules.proofs.Followed.{others}
use Rattle.cancel_rules.proofs.laws.others_change_nothing.Goals as goal

pub returns : goal.returns
returns c = λ p f j e st still calm ungranted. others p f j e st still calm ungranted
