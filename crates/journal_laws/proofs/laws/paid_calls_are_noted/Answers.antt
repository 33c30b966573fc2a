use Rattle.journal_laws.proofs.Debts.{paid_noted, paid_stays, owes_first, owes_less, owes_more}
use Rattle.journal_laws.proofs.Allowed.{paid_allowed}
use Rattle.journal_laws.proofs.laws.paid_calls_are_noted.Goals as goal

pub returns : goal.returns
returns c = record {
  first = λ m. owes_first m;
  allowed = λ m kinds p j lane d legal h. paid_allowed m kinds p j lane d legal h;
  noted = λ p m j lane d h. paid_noted p m j lane d h;
  stays = λ m e j lane d h. paid_stays m e j lane d h;
  less = λ m j lane d h. owes_less m j lane d h;
  more = λ m j lane d x. owes_more m j lane d x;
}
