use Rattle.journal_laws.proofs.Exactly.{launched_ends, unwritten_ends, feed_ends, line_ends, refused_ends, written_ends_none}
use Rattle.journal_laws.proofs.Endings.{quiet_ends_none, ending_was_going}
use Rattle.journal_laws.proofs.laws.ends_are_exact.Goals as goal

pub returns : goal.returns
returns c = record {
  launched = λ p e j l m how s legal is fault at. launched_ends p e j l m how s legal is fault at;
  unwritten = λ p e j l n how x legal is un order. unwritten_ends p e j l n how x legal is un order;
  fed = λ p e j l n x legal is order at. feed_ends p e j l n x legal is order at;
  ended = λ p e j l how legal is. line_ends p e j l how legal is;
  refused = λ p e j y legal h. refused_ends p e j y legal h;
  written = λ p e j l n how t legal is w. written_ends_none p e j l n how legal is w t;
  quiet = λ p e j t legal h. quiet_ends_none p e j t legal h;
  under_way = λ p e j t legal now before none. ending_was_going p e j t legal now before none;
}
