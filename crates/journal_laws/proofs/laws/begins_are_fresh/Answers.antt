use Rattle.journal_laws.proofs.Offered.{begins_one, fresh_send}
use Rattle.journal_laws.proofs.Places.{fresh_launch, numbered_send}
use Rattle.journal_laws.proofs.laws.begins_are_fresh.Goals as goal

pub returns : goal.returns
returns c = record {
  begins = λ p e j t legal h new. begins_one p e j t legal h new;
  launches = λ p e j x legal least h. fresh_launch p e j x legal least h;
  sends = λ p e j x legal h. fresh_send p e j x legal h;
  numbers = λ p e j x legal least h. numbered_send p e j x legal least h;
}
