use Rattle.call_laws.proofs.Gathers as ga
use Rattle.call_laws.proofs.Recent.{room_for_match}
use Rattle.call_laws.proofs.Calls.{match_unspent}
use Rattle.call_laws.proofs.laws.recent_matches_suffice.Goals as goal

pub returns : goal.returns
returns c = record {
  gathers = ga.gathers;
  room = λ p j w l sound legal here.
      room_for_match p j w l legal sound.least here;
  waits = match_unspent;
}
