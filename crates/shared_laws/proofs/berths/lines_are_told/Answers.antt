use Rattle.shared_laws.proofs.Lines.{holds_is, rests_is, vacant_is}
use Rattle.shared_laws.proofs.berths.lines_are_told.Goals as goal

pub returns : goal.returns
returns c = record {
  holds = λ q s j w l st legal none here. holds_is q s j w l st here;
  vacant = λ q s j w st legal none. vacant_is q s j w st;
  rests = λ q s j w l st legal none here. rests_is q s j w l st here;
}
