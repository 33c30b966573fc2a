use Rattle.journal_laws.proofs.Places.{line_within, one_pending, written_place, answered_place}
use Rattle.journal_laws.proofs.Offered.{past_answered}
use Rattle.journal_laws.proofs.Cancels.{matched_uncancelled}
use Rattle.journal_laws.proofs.laws.requests_have_places.Goals as goal

pub returns : goal.returns
returns c = record {
  lines = λ p j l legal least lt. line_within p j l legal least lt;
  one = λ p j l w legal own single. one_pending p j l w legal own single;
  writes = λ p j lane x legal h. written_place p j lane x legal h;
  answers = λ p e j l x s legal ic is. answered_place p e j l x s legal ic is;
  past = λ j s h. past_answered j s h;
  cancelled = λ p e j l x t legal ic is. matched_uncancelled p e j l x t legal ic is;
}
