use Rattle.journal_laws.proofs.Ours.{lawful, seated, within, kept}
use Rattle.journal_laws.proofs.laws.own_berths_are_lawful.Goals as goal

pub returns : goal.returns
returns c = record {
  lawful = λ p j legal. lawful p j legal;
  seated = λ p j l w legal own. seated p j l w legal own;
  within = λ p j l w legal own. within p j l w legal own;
  kept = λ p j sound legal. kept p j sound legal;
}
