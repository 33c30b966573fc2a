use Rattle.table_laws.proofs.Bridge.{is_open_race, won_by, same_race}
use Rattle.table_laws.proofs.race_facts.Goals as goal

pub returns : goal.returns
returns c = record {
  grants = λ p e j y legal h. is_open_race p e j y legal h;
  commits = λ p e j a b how legal h. won_by p e j a b how legal h;
  others = λ p e j legal ungranted uncommitted. same_race p e j legal ungranted uncommitted;
}
