use Rattle.run_tasks.proofs.Spoken.{speech_law}
use Rattle.run_tasks.proofs.laws.executors_speak_as_such.Goals as goal

pub returns : goal.returns
returns c = speech_law
