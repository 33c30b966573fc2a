use Rattle.spawn_tasks.proofs.Sandboxes.{sandbox_law}
use Rattle.spawn_tasks.proofs.laws.sandboxed_actions_run_on_their_group.Goals as goal

pub returns : goal.returns
returns c = sandbox_law
