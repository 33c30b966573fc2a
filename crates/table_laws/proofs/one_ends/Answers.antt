use Rattle.table_laws.proofs.Bridge.{ends_claimed, ends_launched, ends_written, ends_fed}
use Rattle.table_laws.proofs.one_ends.Goals as goal

pub returns : goal.returns
returns c = record {
  claimed = λ p e j y legal h. ends_claimed p e j y legal h;
  launched = λ p e j l m how s legal is fault at free. ends_launched p e j l m how s legal is fault
      at free;
  written = λ p e j l n how x legal is un order up free. ends_written p e j l n how x legal is un
      order up free;
  fed = λ p e j l n x legal is order over done free. ends_fed p e j l n x legal is order over done
      free;
}
