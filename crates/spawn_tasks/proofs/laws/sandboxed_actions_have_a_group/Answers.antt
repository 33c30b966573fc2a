use Rattle.spawn_tasks.proofs.Sandboxes.{has_group_law}
use Rattle.spawn_tasks.proofs.laws.sandboxed_actions_have_a_group.Goals as goal

pub returns : goal.returns
returns c = has_group_law
