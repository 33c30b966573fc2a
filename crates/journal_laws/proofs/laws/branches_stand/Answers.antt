use Rattle.journal_laws.proofs.Offered.{wanted_follows, bound_carried, wanted_unless_granted, known_by_answer, past_ended}
use Rattle.journal_laws.proofs.Requests.{line_facts}
use Rattle.journal_laws.proofs.Lanes.{known_by_write}
use Rattle.journal_laws.proofs.Places.{first_write}
use Rattle.journal_laws.proofs.laws.branches_stand.Goals as goal

pub returns : goal.returns
returns c = record {
  wanted = λ p e j legal. wanted_follows p e j legal;
  bound = λ p j legal. bound_carried p j legal;
  pending = λ p j l legal. wanted_unless_granted p j l legal;
  lines = λ p j l w legal own. line_facts p j l w legal own;
  answers = λ p e j l x s legal ic is. known_by_answer p e j l x s legal ic is;
  writes = λ p e j l n how x legal is h. known_by_write p e j l n how x legal is h;
  first = λ p j lane x legal h. first_write p j lane x legal h;
  past = λ p j s l legal at over. past_ended p j s l legal at over;
}
