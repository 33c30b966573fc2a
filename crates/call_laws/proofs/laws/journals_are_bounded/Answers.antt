use Rattle.journal_laws.proofs.Offered.{each_of}
use Rattle.call_laws.proofs.Reports as rp
use Rattle.call_laws.proofs.laws.journals_are_bounded.Goals as goal

pub returns : goal.returns
returns c = record {
  lines = rp.few_lines;
  sends = rp.few_sends;
  begun = rp.unbegun_goes;
  sent = rp.unsent_unanswered;
  group = λ p j l w legal own. each_of _ _ (rp.grouped p j l w legal own);
}
