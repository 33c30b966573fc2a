use Rattle.table_laws.proofs.Known.{written_on, written_nowhere, pending_on, are_faulted, each_of_all}
use Rattle.table_laws.proofs.BoundFor.{are_of_action}
use Rattle.table_laws.proofs.Bridge.{wanted_stays, carries, is_new, is_sent_to, is_pending_on, is_first}
use Rattle.table_laws.proofs.pool_facts.Goals as goal

pub returns : goal.returns
returns c = record {
  wanted = λ p e j legal. wanted_stays p e j legal;
  carries = λ p j legal. carries p j legal;
  launches = λ p e j x sound legal h. is_new p e j x sound legal h;
  sends = λ p e j x legal h. is_sent_to p e j x legal h;
  answers = λ p e j l x s legal ic is. is_pending_on p e j l x s legal ic is;
  writes = λ p j lane x legal h. is_first p j lane x legal h;
  written = written_on;
  closed = written_nowhere;
  pending = λ p j l legal. each_of_all _ _ (pending_on p j l legal);
  faults = are_faulted;
  grants = are_of_action;
}
