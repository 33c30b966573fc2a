use Rattle.table_laws.proofs.Listed.{retries_listed}
use Rattle.table_laws.proofs.Bridge.{is_going, retries_one}
use Rattle.table_laws.proofs.retry_facts.Goals as goal

pub returns : goal.returns
returns c = record {
  going = λ j t is. is_going j t is;
  ends = λ e j y is. retries_one e j y is;
  lost = λ p e j l how legal is. retries_listed p e j l how legal is;
}
