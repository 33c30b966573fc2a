use Rattle.shared_laws.proofs.Noted.{begins, stays}
use Rattle.shared_laws.proofs.words.words_are_noted.Goals as goal

pub returns : goal.returns
returns c = record {
  begins = λ q. begins q;
  stays = λ q j ws lane d r legal known. stays q j ws lane d r legal known;
}
