use Rattle.table_laws.proofs.Known.{known_by, each_of_all}
use Rattle.table_laws.proofs.Bridge.{is_new_request, is_next_send, known_answer, known_write, is_past, is_past_answered}
use Rattle.table_laws.proofs.request_facts.Goals as goal

pub returns : goal.returns
returns c = record {
  fresh = λ p e j x legal h. is_new_request p e j x legal h;
  sends = λ p e j x sound legal h. is_next_send p e j x sound legal h;
  answers = λ p e j l x s legal ic is. known_answer p e j l x s legal ic is;
  writes = λ p e j l n how x legal is h. known_write p e j l n how x legal is h;
  pending = λ p j l w legal own. each_of_all _ _ (known_by p j l w legal own);
  ended = λ p j s l legal at over. is_past p j s l legal at over;
  answered = λ j s h. is_past_answered j s h;
}
