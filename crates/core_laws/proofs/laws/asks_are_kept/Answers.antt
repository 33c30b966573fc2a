use Rattle.core_laws.proofs.AllOf.{all_of}
use Rattle.core_laws.proofs.Asks.{ask_stands}
use Rattle.core_laws.proofs.laws.asks_are_kept.Goals as goal

pub returns : goal.returns
returns c = λ p seats s j lane x st may is kept.
    ask_stands p seats s j lane st (all_of p seats s j st) may x is kept
