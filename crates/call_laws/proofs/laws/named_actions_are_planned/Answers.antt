use Rattle.call_laws.proofs.Calls as ca
use Rattle.call_laws.proofs.laws.named_actions_are_planned.Goals as goal

pub returns : goal.returns
returns c = record {
  launches = ca.launch_within;
  sends = ca.send_within;
  gathers = ca.gather_within;
  claims = ca.claim_within;
  commits = ca.commit_within;
}
