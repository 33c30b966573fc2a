use Rattle.call_laws.proofs.Ended as ed
use Rattle.call_laws.proofs.laws.faults_end_one.Goals as goal

pub returns : goal.returns
returns c = record {
  launched = λ p e j l m how t sound legal is fault at. ed.launched_just p e j l m how t legal
      sound.least is fault at;
  unbound = ed.are_faulted;
  written = λ p e j l n how x sound legal is un order. ed.unwritten_just p e j l n how x legal
      sound.least is un order;
  fed = λ p e j l n x sound legal is order over. ed.fed_just p e j l n x legal sound.least is order
      over;
  claimed = λ p e j y sound legal h. ed.refused_just p e j y legal sound.least h;
}
