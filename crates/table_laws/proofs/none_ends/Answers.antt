use Rattle.table_laws.proofs.EndsNone.{none_started, none_done, none_claimed}
use Rattle.table_laws.proofs.Bridge.{ends_none, none_launched, none_written, none_left, none_fed}
use Rattle.table_laws.proofs.none_ends.Goals as goal

pub returns : goal.returns
returns c = record {
  quiet = λ p e j legal calm. ends_none p e j legal calm;
  launched = λ p e j l m how s legal is fault at won.
      none_launched p e j l m how s legal is fault at won;
  written = λ p e j l n how x legal is un order won.
      none_written p e j l n how x legal is un order won;
  left = λ p e j l n how x legal is un order over unanswered. none_left p e j l n how x legal is un
      order over unanswered;
  fed = λ p e j l n x legal is order h. none_fed p e j l n x legal is order h;
  started = none_started;
  done = none_done;
  claimed = none_claimed;
}
