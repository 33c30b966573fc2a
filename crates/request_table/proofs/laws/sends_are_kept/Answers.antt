use Rattle.request_table.proofs.Sent.{sends_kept}
use Rattle.request_table.proofs.laws.sends_are_kept.Goals as goal

pub returns : goal.returns
returns c = λ p f j lane g l n a b t st within next. sends_kept p f j lane g l n a b t st within next
