use Rattle.lane_laws.proofs.Leaving.{ends_left, was_stopped}
use Rattle.lane_laws.proofs.ended_lanes_have_left.Goals as goal

pub returns : goal.returns
returns c = λ means lane own deeds. (
  (λ halted ends. ends_left means lane own deeds halted ends),
  (λ ends. was_stopped means own deeds ends),
)
