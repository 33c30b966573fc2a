use Rattle.journal_laws.proofs.Firm.{settled_stays, ready_stays}
use Rattle.journal_laws.proofs.Known.{all_settled_stays, outcome_known}
use Rattle.journal_laws.proofs.Races.{requests_accounted}
use Rattle.journal_laws.proofs.laws.standings_grow.Goals as goal

pub returns : goal.returns
returns c = record {
  settled = λ p e j a legal h. settled_stays p e j a legal h;
  all = λ p e j legal h. all_settled_stays p e j legal h;
  ready = λ p e j x legal h. ready_stays p e j x legal h;
  known = λ p j a x at h. outcome_known p j a x at h;
  requests = λ p j legal. requests_accounted p j legal;
}
