use Rattle.journal_laws.proofs.Offered.{each_of}
use Rattle.call_laws.proofs.Requested as re
use Rattle.call_laws.proofs.laws.requests_are_known.Goals as goal

pub returns : goal.returns
returns c = record {
  known = λ p j l w legal own. each_of _ _ (re.known_pending p j l w legal own);
  numbers = re.numbered;
  clean = λ p j l legal whole. each_of _ _ (re.pending_clean p j l legal whole);
  cancels = λ p j l legal none. each_of _ _ (re.no_cancel p j l legal none);
  fed = λ p j l legal. each_of _ _ (re.fed_last p j l legal);
  past = re.written_answered;
}
