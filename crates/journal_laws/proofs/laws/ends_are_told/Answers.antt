use Rattle.journal_laws.proofs.Endings.{ends_with, ends_so}
use Rattle.journal_laws.proofs.laws.ends_are_told.Goals as goal

pub returns : goal.returns
returns c = record {
  only = λ p e j t legal now before. (ends_with p e j t legal now before).0;
  so = λ p e j t legal how free. ends_so p e j t legal how free;
}
