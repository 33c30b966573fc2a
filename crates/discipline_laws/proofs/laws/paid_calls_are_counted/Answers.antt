use Rattle.discipline_laws.proofs.Paying.{paid_noted, paid_stays, owes_less, owes_more}
use Rattle.discipline_laws.proofs.laws.paid_calls_are_counted.Goals as goal

pub returns : goal.returns
returns c = record {
  noted = paid_noted;
  stays = λ q is h more lane d none paid. paid_stays q h more lane d none paid;
  less = λ q is h lane d paid. owes_less q h lane d paid;
  more = λ q is h lane d kept. owes_more q h lane d kept;
}
