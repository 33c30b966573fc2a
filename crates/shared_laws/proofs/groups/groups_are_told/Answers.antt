use Rattle.shared_laws.proofs.Lines.{held_at}
use Rattle.shared_laws.proofs.NextStarved.{next_is_told}
use Rattle.shared_laws.proofs.StarvedGroups.{starved_is_told}
use Rattle.shared_laws.proofs.groups.groups_are_told.Goals as goal

pub returns : goal.returns
returns c = record {
  starved = λ q s j pool g st legal none. starved_is_told q s j st (held_at q s j st) pool g;
  next = λ q s j pool st legal none. next_is_told q s j st (held_at q s j st) pool;
}
