use Rattle.table_laws.proofs.EndsNone.{started_branches, written_branches, fed_branches, lost_branches}
use Rattle.table_laws.proofs.Listed.{ends_listed}
use Rattle.table_laws.proofs.Bridge.{begins_this, under_way, ends_one, is_open, won_files, same_branches, sent_branches, greeted_branches}
use Rattle.table_laws.proofs.queue_facts.Goals as goal

pub returns : goal.returns
returns c = record {
  begins = λ p e j t legal h unbegun. begins_this p e j t legal h unbegun;
  going = λ p j t sound legal is. under_way p j t sound legal is;
  ends = λ p e j y sound legal is. ends_one p e j y sound legal is;
  lost = λ p e j l how sound legal is. ends_listed p e j l how legal is sound;
  grants = λ p e j y legal h. is_open p e j y legal h;
  commits = λ p e j a b how legal h. won_files p e j a b how legal h;
  quiet = λ p e j legal calm uncommitted none. same_branches p e j legal calm uncommitted none;
  sends = λ p e j t legal begins old asked. sent_branches p e j t legal begins old asked;
  greets = λ p e j legal h. greeted_branches p e j legal h;
  starts = started_branches;
  writes = written_branches;
  feeds = fed_branches;
  loses = lost_branches;
}
