use Rattle.journal_laws.proofs.Races.{race}
use Rattle.journal_laws.proofs.Requests.{paired}
use Rattle.placed_rules.proofs.Whole.{lawful}
use Rattle.placed_rules.proofs.laws.placed_berths_are_lawful.Goals as goal

pub returns : goal.returns
returns c = record {
  lawful = λ x j legal. lawful x j legal;
  race = λ x j legal. race x.plan j (lawful x j legal);
  paired = λ x j legal. paired x.plan j (lawful x j legal);
}
