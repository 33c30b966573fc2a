use Rattle.journal_laws.proofs.Keeping.{orders_kept}
use Rattle.journal_laws.proofs.laws.orders_are_kept.Goals as goal

pub returns : goal.returns
returns c = λ p j s h. orders_kept p j s h
