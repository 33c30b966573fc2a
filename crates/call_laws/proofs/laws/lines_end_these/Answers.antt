use Rattle.call_laws.proofs.LineEnds.{ends_standing}
use Rattle.call_laws.proofs.Same as sa
use Rattle.call_laws.proofs.LostWith.{lost_exactly, lost_apart, lost_going}
use Rattle.call_laws.proofs.Unsent.{unsent_bound}
use Rattle.call_laws.proofs.laws.lines_end_these.Goals as goal

pub returns : goal.returns
returns c = record {
  these = λ p e j l how legal is t. ends_standing p e j l how legal is t;
  listed = λ p e j l how legal is t. lost_exactly p e j l how legal is t;
  once = lost_apart;
  going = lost_going;
  one = λ p j l m s t v sound legal at a b x y same. sa.standing_one p j l m s sound legal at t v a
      b x y same;
  fed = sa.fed_now;
  unsent = unsent_bound;
}
