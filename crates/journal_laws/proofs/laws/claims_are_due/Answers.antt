use Rattle.journal_laws.proofs.Granted.{claimable, winner}
use Rattle.journal_laws.proofs.Offered.{is_ungranted, is_granted_files}
use Rattle.journal_laws.proofs.laws.claims_are_due.Goals as goal

pub returns : goal.returns
returns c = record {
  claims = λ p e j t legal h. claimable p e j t legal h;
  wins = λ p j a x legal h. winner p j a x legal h;
  grants = λ p e j y legal h. is_ungranted p e j y legal h;
  commits = λ p e j a b how legal h. is_granted_files p e j a b how legal h;
}
